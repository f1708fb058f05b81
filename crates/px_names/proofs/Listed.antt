-- An input's list found at a place, and the lists after it has changed.
use Rattle.std.proofs.Common.{arith, ◌≡◌, ℕ, ◌<◌, nat_lt, Bool, true, false, List, [], ◌∷◌, ◌++◌, suc, zero, length, get_or, slice_set, None, Some, refl, ap}
use Rattle.std.proofs.lemmas.List.Quantifiers.{position-Some}
use Rattle.std.specs.List.{find, position, remove, position_or_len}
use Rattle.px_types.specs.declared.ids.InputId.{InputId}
use Rattle.px_tag.specs.PropList.{Property}
use Rattle.px_names.specs.declared.input_lists.InputList.{InputList}
use Rattle.px_names.specs.InputLists.{is_of, with_list_of, without_list_of}
use Rattle.px_names.proofs.Changes.{nothing, behind}

abbrev with_other : List Property → InputList → InputList
with_other list l = record l { list = list }

put_at : (input : InputId) (list : List Property) (xs : List InputList) (i : ℕ) (d : InputList) → i < length xs → is_of input (get_or xs i d) ≡ true → ((k : ℕ) → k < i → is_of input (get_or xs k d) ≡ false) → with_list_of input list xs ≡ slice_set xs i (with_other list (get_or xs i d))
put_at input list [] i d within so before = absurd (omega arith)
put_at input list (x ∷ xs) zero d within so before = rw so refl
put_at input list (x ∷ xs) (suc i) d within so before = rw (before 0 (omega arith)) (ap (λ ys. x ∷ ys) (put_at input list xs i d (omega arith) so (λ k less. before (suc k) (omega arith))))

pub put_in_place : (input : InputId) (list : List Property) (xs : List InputList) (i : ℕ) (d : InputList) → position (is_of input) xs ≡ Some i → with_list_of input list xs ≡ slice_set xs i (record (get_or xs i d) { list = list })
put_in_place input list xs i d found =
    let p = position-Some (is_of input) xs i d found in
    put_at input list xs i d (p.0) (p.1) (p.2)

put_by : (input : InputId) (list : List Property) (xs : List InputList) → nat_lt (position_or_len (is_of input) xs) (length xs) ≡ false → with_list_of input list xs ≡ xs ++ record { input = input; list = list } ∷ []
put_by input list [] h = refl
put_by input list (x ∷ xs) h =
    let b = behind (is_of input x) (position_or_len (is_of input) xs) (length xs) h in
    rw (b.0) (ap (λ ys. x ∷ ys) (put_by input list xs (b.1)))

pub put_behind : (input : InputId) (list : List Property) (xs : List InputList) → position (is_of input) xs ≡ None → with_list_of input list xs ≡ xs ++ record { input = input; list = list } ∷ []
put_behind input list xs none = put_by input list xs (nothing (nat_lt (position_or_len (is_of input) xs) (length xs)) (position_or_len (is_of input) xs) none)

dropped_at : (input : InputId) (xs : List InputList) (i : ℕ) (d : InputList) → i < length xs → is_of input (get_or xs i d) ≡ true → ((k : ℕ) → k < i → is_of input (get_or xs k d) ≡ false) → remove xs i ≡ without_list_of input xs
dropped_at input [] i d within so before = absurd (omega arith)
dropped_at input (x ∷ xs) zero d within so before = rw so refl
dropped_at input (x ∷ xs) (suc i) d within so before = rw (before 0 (omega arith)) (ap (λ ys. x ∷ ys) (dropped_at input xs i d (omega arith) so (λ k less. before (suc k) (omega arith))))

pub dropped : (input : InputId) (xs : List InputList) (i : ℕ) (d : InputList) → position (is_of input) xs ≡ Some i → remove xs i ≡ without_list_of input xs
dropped input xs i d found =
    let p = position-Some (is_of input) xs i d found in
    dropped_at input xs i d (p.0) (p.1) (p.2)

undropped_by : (input : InputId) (xs : List InputList) → nat_lt (position_or_len (is_of input) xs) (length xs) ≡ false → xs ≡ without_list_of input xs
undropped_by input [] h = refl
undropped_by input (x ∷ xs) h =
    let b = behind (is_of input x) (position_or_len (is_of input) xs) (length xs) h in
    rw (b.0) (ap (λ ys. x ∷ ys) (undropped_by input xs (b.1)))

pub undropped : (input : InputId) (xs : List InputList) → position (is_of input) xs ≡ None → xs ≡ without_list_of input xs
undropped input xs none = undropped_by input xs (nothing (nat_lt (position_or_len (is_of input) xs) (length xs)) (position_or_len (is_of input) xs) none)

found_at : (is : InputList → Bool) (xs : List InputList) (i : ℕ) (d : InputList) → i < length xs → is (get_or xs i d) ≡ true → ((k : ℕ) → k < i → is (get_or xs k d) ≡ false) → find is xs ≡ Some (get_or xs i d)
found_at is [] i d within so before = absurd (omega arith)
found_at is (x ∷ xs) zero d within so before = rw so refl
found_at is (x ∷ xs) (suc i) d within so before = rw (before 0 (omega arith)) (found_at is xs i d (omega arith) so (λ k less. before (suc k) (omega arith)))

-- what stands at the place is what is found
pub found_there : (is : InputList → Bool) (xs : List InputList) (i : ℕ) (d : InputList) → position is xs ≡ Some i → find is xs ≡ Some (get_or xs i d)
found_there is xs i d found =
    let p = position-Some is xs i d found in
    found_at is xs i d (p.0) (p.1) (p.2)

unfound_by : (is : InputList → Bool) (xs : List InputList) → nat_lt (position_or_len is xs) (length xs) ≡ false → find is xs ≡ None
unfound_by is [] h = refl
unfound_by is (x ∷ xs) h =
    let b = behind (is x) (position_or_len is xs) (length xs) h in
    rw (b.0) (unfound_by is xs (b.1))

pub unfound : (is : InputList → Bool) (xs : List InputList) → position is xs ≡ None → find is xs ≡ None
unfound is xs none = unfound_by is xs (nothing (nat_lt (position_or_len is xs) (length xs)) (position_or_len is xs) none)
