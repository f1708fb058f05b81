-- An upload found at a place, and the uploads after it has changed.
use Rattle.std.proofs.Common.{arith, rules, ◌≡◌, ℕ, ◌+◌, ◌<◌, nat_lt, not, Bool, true, false, cond, List, [], ◌∷◌, suc, zero, length, get_or, slice_set, None, Some, refl, ap}
use Rattle.std.proofs.lemmas.Bool.Decides.{nat_tests}
use Rattle.std.proofs.lemmas.List.Quantifiers.{position-Some}
use Rattle.std.specs.Prelude.{Result, Ok, Err, OnOk}
use Rattle.std.specs.List.{position, position_or_len}
use Rattle.px_scache.specs.declared.upload.Upload.{Upload}
use Rattle.px_scache.specs.Uploads.{change_first}

changed_at : (is : Upload → Bool) (change : Upload → Upload) (xs : List Upload) (i : ℕ) (d : Upload) → i < length xs → is (get_or xs i d) ≡ true → ((k : ℕ) → k < i → is (get_or xs k d) ≡ false) → change_first is change xs ≡ slice_set xs i (change (get_or xs i d))
changed_at is change [] i d within so before = absurd (omega arith)
changed_at is change (x ∷ xs) zero d within so before = rw so refl
changed_at is change (x ∷ xs) (suc i) d within so before = rw (before 0 (omega arith)) (ap (λ ys. x ∷ ys) (changed_at is change xs i d (omega arith) so (λ k less. before (suc k) (omega arith))))

pub changed : (is : Upload → Bool) (change : Upload → Upload) (xs : List Upload) (i : ℕ) (d : Upload) → position is xs ≡ Some i → change_first is change xs ≡ slice_set xs i (change (get_or xs i d))
changed is change xs i d found =
    let p = position-Some is xs i d found in
    changed_at is change xs i d (p.0) (p.1) (p.2)

nothing : (b : Bool) (n : ℕ) → cond b (Some n) None ≡ None → b ≡ false
nothing true n h = absurd (search rules)
nothing false n h = refl

-- nothing is found in a longer list: neither at its head nor after it
after : (b : Bool) (n len : ℕ) → nat_lt (cond (not b) (1 + n) 0) (suc len) ≡ false → (b ≡ false) × (nat_lt n len ≡ false)
after true n len h = absurd (grind (arith, nat_tests))
after false n len h = (refl, grind (arith, nat_tests))

unchanged_by : (is : Upload → Bool) (change : Upload → Upload) (xs : List Upload) → nat_lt (position_or_len is xs) (length xs) ≡ false → xs ≡ change_first is change xs
unchanged_by is change [] h = refl
unchanged_by is change (x ∷ xs) h =
    let b = after (is x) (position_or_len is xs) (length xs) h in
    rw (b.0) (ap (λ ys. x ∷ ys) (unchanged_by is change xs (b.1)))

pub unchanged : (is : Upload → Bool) (change : Upload → Upload) (xs : List Upload) → position is xs ≡ None → xs ≡ change_first is change xs
unchanged is change xs none = unchanged_by is change xs (nothing (nat_lt (position_or_len is xs) (length xs)) (position_or_len is xs) none)

-- what follows from what a call that was done ensures
pub if_done : {T E : Type 0} (result : Result T E) (A B : Type 0) → (A → B) → OnOk result A → OnOk result B
if_done (Ok x) A B more done = more done
if_done (Err e) A B more done = tt
