-- The first that is so is found at a place, and a list where it changes or goes.
use Rattle.std.proofs.Common.{arith, rules, ◌≡◌, ℕ, ◌+◌, ◌<◌, nat_lt, not, Bool, true, false, cond, List, [], ◌∷◌, suc, zero, length, get_or, slice_set, None, Some, refl, ap}
use Rattle.std.proofs.lemmas.Bool.Decides.{nat_tests}
use Rattle.std.proofs.lemmas.List.Quantifiers.{position-Some}
use Rattle.std.specs.List.{find, position, remove, position_or_len}
use Rattle.px_input_table.specs.Lists.{change_first, drop_first}

changed_at : {A : Type 0} (is : A → Bool) (change : A → A) (xs : List A) (i : ℕ) (d : A) → i < length xs → is (get_or xs i d) ≡ true → ((k : ℕ) → k < i → is (get_or xs k d) ≡ false) → change_first is change xs ≡ slice_set xs i (change (get_or xs i d))
changed_at is change [] i d within so before = absurd (omega arith)
changed_at is change (x ∷ xs) zero d within so before = rw so refl
changed_at is change (x ∷ xs) (suc i) d within so before = rw (before 0 (omega arith)) (ap (λ ys. x ∷ ys) (changed_at is change xs i d (omega arith) so (λ k less. before (suc k) (omega arith))))

-- it is found, and changes
pub changed : {A : Type 0} (is : A → Bool) (change : A → A) (xs : List A) (i : ℕ) (d : A) → position is xs ≡ Some i → change_first is change xs ≡ slice_set xs i (change (get_or xs i d))
changed is change xs i d found =
    let p = position-Some is xs i d found in
    changed_at is change xs i d (p.0) (p.1) (p.2)

-- an option is what a choice on b gives; where it gives nothing, b is false
nothing : (b : Bool) (n : ℕ) → cond b (Some n) None ≡ None → b ≡ false
nothing true n h = absurd (search rules)
nothing false n h = refl

-- nothing is found in a longer list: neither at its head nor behind it
behind : (b : Bool) (n len : ℕ) → nat_lt (cond (not b) (1 + n) 0) (suc len) ≡ false → (b ≡ false) × (nat_lt n len ≡ false)
behind true n len h = absurd (grind (arith, nat_tests))
behind false n len h = (refl, grind (arith, nat_tests))

unchanged_by : {A : Type 0} (is : A → Bool) (change : A → A) (xs : List A) → nat_lt (position_or_len is xs) (length xs) ≡ false → xs ≡ change_first is change xs
unchanged_by is change [] h = refl
unchanged_by is change (x ∷ xs) h =
    let b = behind (is x) (position_or_len is xs) (length xs) h in
    rw (b.0) (ap (λ ys. x ∷ ys) (unchanged_by is change xs (b.1)))

-- nothing is found, and nothing changes
pub unchanged : {A : Type 0} (is : A → Bool) (change : A → A) (xs : List A) → position is xs ≡ None → xs ≡ change_first is change xs
unchanged is change xs none = unchanged_by is change xs (nothing (nat_lt (position_or_len is xs) (length xs)) (position_or_len is xs) none)

dropped_at : {A : Type 0} (is : A → Bool) (xs : List A) (i : ℕ) (d : A) → i < length xs → is (get_or xs i d) ≡ true → ((k : ℕ) → k < i → is (get_or xs k d) ≡ false) → remove xs i ≡ drop_first is xs
dropped_at is [] i d within so before = absurd (omega arith)
dropped_at is (x ∷ xs) zero d within so before = rw so refl
dropped_at is (x ∷ xs) (suc i) d within so before = rw (before 0 (omega arith)) (ap (λ ys. x ∷ ys) (dropped_at is xs i d (omega arith) so (λ k less. before (suc k) (omega arith))))

-- it is found, and goes
pub dropped : {A : Type 0} (is : A → Bool) (xs : List A) (i : ℕ) (d : A) → position is xs ≡ Some i → remove xs i ≡ drop_first is xs
dropped is xs i d found =
    let p = position-Some is xs i d found in
    dropped_at is xs i d (p.0) (p.1) (p.2)

undropped_by : {A : Type 0} (is : A → Bool) (xs : List A) → nat_lt (position_or_len is xs) (length xs) ≡ false → xs ≡ drop_first is xs
undropped_by is [] h = refl
undropped_by is (x ∷ xs) h =
    let b = behind (is x) (position_or_len is xs) (length xs) h in
    rw (b.0) (ap (λ ys. x ∷ ys) (undropped_by is xs (b.1)))

-- nothing is found, and nothing goes
pub undropped : {A : Type 0} (is : A → Bool) (xs : List A) → position is xs ≡ None → xs ≡ drop_first is xs
undropped is xs none = undropped_by is xs (nothing (nat_lt (position_or_len is xs) (length xs)) (position_or_len is xs) none)

found_at : {A : Type 0} (is : A → Bool) (xs : List A) (i : ℕ) (d : A) → i < length xs → is (get_or xs i d) ≡ true → ((k : ℕ) → k < i → is (get_or xs k d) ≡ false) → find is xs ≡ Some (get_or xs i d)
found_at is [] i d within so before = absurd (omega arith)
found_at is (x ∷ xs) zero d within so before = rw so refl
found_at is (x ∷ xs) (suc i) d within so before = rw (before 0 (omega arith)) (found_at is xs i d (omega arith) so (λ k less. before (suc k) (omega arith)))

-- what stands at the place is what is found
pub found_there : {A : Type 0} (is : A → Bool) (xs : List A) (i : ℕ) (d : A) → position is xs ≡ Some i → find is xs ≡ Some (get_or xs i d)
found_there is xs i d found =
    let p = position-Some is xs i d found in
    found_at is xs i d (p.0) (p.1) (p.2)

unfound_by : {A : Type 0} (is : A → Bool) (xs : List A) → nat_lt (position_or_len is xs) (length xs) ≡ false → find is xs ≡ None
unfound_by is [] h = refl
unfound_by is (x ∷ xs) h =
    let b = behind (is x) (position_or_len is xs) (length xs) h in
    rw (b.0) (unfound_by is xs (b.1))

pub unfound : {A : Type 0} (is : A → Bool) (xs : List A) → position is xs ≡ None → find is xs ≡ None
unfound is xs none = unfound_by is xs (nothing (nat_lt (position_or_len is xs) (length xs)) (position_or_len is xs) none)
