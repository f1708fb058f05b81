-- The name of a source has no zero byte.
use Rattle.std.proofs.Common.{◌≡◌, ℕ, Bool, true, false, ◌&&◌, not, eqb, List, [], ◌∷◌, length, IsTrue, refl, arith}
use Rattle.std.specs.Prelude.{nat_le}
use Rattle.std.specs.List.{list_all}
use Rattle.std.proofs.lemmas.Bool.Decides.{nat_tests}
use Rattle.px_tag.specs.Item.{is_text}
use Rattle.px_names.specs.Source.{is_visible, is_source_name}

both : (a b : Bool) → (a && b) ≡ true → (a ≡ true) × (b ≡ true)
both true b e = (refl, e)
both false b e = absurd cc

and : (a b : Bool) → a ≡ true → b ≡ true → (a && b) ≡ true
and a b p q = rw (p, q) refl

no_zero : (byte : ℕ) → is_visible byte ≡ true → not (eqb byte 0) ≡ true
no_zero byte e = grind (arith, nat_tests)

visible_text : (bytes : List ℕ) → list_all is_visible bytes ≡ true → is_text bytes ≡ true
visible_text [] e = refl
visible_text (byte ∷ bytes) e =
    let p = both (is_visible byte) (list_all is_visible bytes) e in
    and (not (eqb byte 0)) (is_text bytes) (no_zero byte p.0) (visible_text bytes p.1)

pub name_is_text : (bytes : List ℕ) → IsTrue (is_source_name bytes) → IsTrue (is_text bytes)
name_is_text bytes is = visible_text bytes ((both (nat_le 1 (length bytes) && nat_le (length bytes) 64) (list_all is_visible bytes) is).1)
