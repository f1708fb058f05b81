-- A sink's name has no zero byte.
use Rattle.std.proofs.Common.{◌≡◌, ℕ, Bool, true, false, not, ◌≤◌, ◌==◌, nat_le, IsTrue, List, [], ◌∷◌, refl, leb-true, arith}
use Rattle.std.specs.List.{list_all}
use Rattle.std.proofs.lemmas.Bool.{eqb-true}
use Rattle.px_tag.specs.Item.{is_text}
use Rattle.px_tag.proofs.Properties.{both, and}
use Rattle.px_client.specs.Errand.{is_name_byte, IsName}

not_zero : (b : ℕ) → is_name_byte b ≡ true → not (b == 0) ≡ true
not_zero b e = go (b == 0) refl
  where
    go : (r : Bool) → (b == 0) ≡ r → not r ≡ true
    go false f = refl
    go true f = absurd (let some : 0x21 ≤ b = leb-true 0x21 b (both (nat_le 0x21 b) (nat_le b 0x7E) e).0 in let none : b ≡ 0 = eqb-true b 0 f in omega arith)

bytes_text : (name : List ℕ) → list_all is_name_byte name ≡ true → is_text name ≡ true
bytes_text [] e = refl
bytes_text (b ∷ name) e =
    let h = both (is_name_byte b) (list_all is_name_byte name) e in
    and (not (b == 0)) (is_text name) (not_zero b h.0) (bytes_text name h.1)

pub name_is_text : (name : List ℕ) → IsName name → IsTrue (is_text name)
name_is_text name is = bytes_text name is.bytes
