-- Readings that follow one another, and what a place's bytes are after each.
use Rattle.std.proofs.Common.{◌≡◌, ℕ, suc, ◌+◌, Bool, true, false, cond, List, ◌∷◌, ◌++◌, take, drop, Result, Ok, Err, refl, sym, ap, ◌∙◌, append_assoc, arith, inl, inr}
use Rattle.std.proofs.lemmas.Bool.{cases_lt}
use Rattle.std.proofs.lemmas.List.{get_or-drop, get_or-take, get_or_past, length-take}
use Rattle.px_tag.specs.declared.fault.TagFault.{TagFault}
use Rattle.px_tag.specs.Place.{Place, Reading, ◌>>=◌}
use Rattle.px_tag.specs.Law.{AreBytes, Stands}

pub AreBytes-drop : (n : ℕ) (bytes : List ℕ) → AreBytes bytes → AreBytes (drop n bytes)
AreBytes-drop n bytes h i = rw get_or-drop (h (n + i))

pub AreBytes-take : (n : ℕ) (bytes : List ℕ) → AreBytes bytes → AreBytes (take n bytes)
AreBytes-take n bytes h i =
    elim (cases_lt i n) [
      | inl lt ↦ rw (get_or-take n bytes i 0 lt) (h i)
      | inr le ↦ rw (get_or_past (take n bytes) i 0 (omega (arith, length-take n bytes))) (omega arith)
    ]

pub AreBytes-rest : (byte : ℕ) (bytes : List ℕ) → AreBytes (byte ∷ bytes) → AreBytes bytes
AreBytes-rest byte bytes h i = h (suc i)

-- the value of a step that did not fail
pub bind_ok : {A B : Type 0} (r : Result A TagFault) (f : A → Result B TagFault) (y : B) → (r >>= f) ≡ Ok y → (x : A) × (r ≡ Ok x) × (f x ≡ Ok y)
bind_ok (Ok x) f y e = (x, refl, e)
bind_ok (Err d) f y e = absurd cc

-- a test that did not fail
pub guard_ok : {A : Type 0} (b : Bool) (d : TagFault) (x y : A) → cond b (Err d) (Ok x) ≡ Ok y → (b ≡ false) × (x ≡ y)
guard_ok true d x y e = absurd cc
guard_ok false d x y e = (refl, cc)

-- a test that did not fail, the other way round
pub check_ok : {A : Type 0} (b : Bool) (d : TagFault) (x y : A) → cond b (Ok x) (Err d) ≡ Ok y → (b ≡ true) × (x ≡ y)
check_ok true d x y e = (refl, cc)
check_ok false d x y e = absurd cc

-- a step behind a test, where neither failed
pub checked : {A : Type 0} (b : Bool) (d : TagFault) (r : Result A TagFault) (y : A) → cond b r (Err d) ≡ Ok y → (b ≡ true) × (r ≡ Ok y)
checked true d r y e = (refl, e)
checked false d r y e = absurd cc

-- the same, the other way round
pub unless : {A : Type 0} (b : Bool) (d : TagFault) (r : Result A TagFault) (y : A) → cond b (Err d) r ≡ Ok y → (b ≡ false) × (r ≡ Ok y)
unless true d r y e = absurd cc
unless false d r y e = (refl, e)

abbrev done : {A : Type 0} → A → Result A TagFault
done x = Ok x

pub ok_is : {A : Type 0} (x y : A) → done x ≡ done y → x ≡ y
ok_is x y e = cc

pub pair_is : {A B : Type 0} (a x : A) (b y : B) → a ≡ x → b ≡ y → (let p : A × B = (a, b) in p) ≡ (x, y)
pair_is a x b y e f = cc

pub place_is : (size : ℕ) (rest bytes : List ℕ) → rest ≡ bytes → (let p : Place = record { size = size; rest = rest } in p) ≡ record { size = size; rest = bytes }
place_is size rest bytes e = ap (λ (r : List ℕ). record { size = size; rest = r }) e

pub Stands-then : (x y : List ℕ) (a b c : Place) → Stands x a b → Stands y b c → Stands (x ++ y) a c
Stands-then x y a b c p q = record {
  bytes = p.bytes ∙ ap (λ (t : List ℕ). x ++ t) q.bytes ∙ sym (append_assoc x y c.rest);
  size = q.size ∙ p.size;
  are_bytes = q.are_bytes;
}

-- what is read again begins no other
pub one_from_again : {A : Type 0} (IsValue : A → Type 0) (spelling : A → List ℕ) (read : Reading A)
    → ((value : A) (size : ℕ) (behind : List ℕ) → IsValue value → read (record { size = size; rest = spelling value ++ behind }) ≡ Ok (value, record { size = size; rest = behind }))
    → (v w : A) (x y : List ℕ) → IsValue v → IsValue w → spelling v ++ x ≡ spelling w ++ y → (v ≡ w) × (x ≡ y)
one_from_again {A} IsValue spelling read again v w x y hv hw e =
    let a = again v 0 x hv in
    let b = again w 0 y hw in
    let same : read (record { size = 0; rest = spelling v ++ x }) ≡ read (record { size = 0; rest = spelling w ++ y }) = ap read (place_is 0 (spelling v ++ x) (spelling w ++ y) e) in
    let px : Place = record { size = 0; rest = x } in
    let py : Place = record { size = 0; rest = y } in
    let whole : (v, px) ≡ (w, py) = ok_is (v, px) (w, py) (sym a ∙ same ∙ b) in
    (ap (λ (p : A × Place). p.0) whole, ap (λ (p : A × Place). p.1.rest) whole)
