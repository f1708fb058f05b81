-- A client found at a place, and the clients after it has changed.
use Rattle.std.proofs.Common.{arith, rules, ◌≡◌, ℕ, ◌+◌, ◌<◌, nat_lt, not, Bool, true, false, cond, List, [], ◌∷◌, suc, zero, length, get_or, slice_set, None, Some, refl, ap}
use Rattle.std.proofs.lemmas.Bool.Decides.{nat_tests}
use Rattle.std.proofs.lemmas.List.Quantifiers.{position-Some}
use Rattle.std.specs.List.{position, remove, position_or_len}
use Rattle.px_names.specs.Clients.{change_first, without_first}
use Rattle.px_names.specs.declared.client.Client.{Client}

changed_at : (is : Client → Bool) (change : Client → Client) (xs : List Client) (i : ℕ) (d : Client) → i < length xs → is (get_or xs i d) ≡ true → ((k : ℕ) → k < i → is (get_or xs k d) ≡ false) → change_first is change xs ≡ slice_set xs i (change (get_or xs i d))
changed_at is change [] i d within so before = absurd (omega arith)
changed_at is change (x ∷ xs) zero d within so before = rw so refl
changed_at is change (x ∷ xs) (suc i) d within so before = rw (before 0 (omega arith)) (ap (λ ys. x ∷ ys) (changed_at is change xs i d (omega arith) so (λ k less. before (suc k) (omega arith))))

pub changed : (is : Client → Bool) (change : Client → Client) (xs : List Client) (i : ℕ) (d : Client) → position is xs ≡ Some i → change_first is change xs ≡ slice_set xs i (change (get_or xs i d))
changed is change xs i d found =
    let p = position-Some is xs i d found in
    changed_at is change xs i d (p.0) (p.1) (p.2)

-- an option is what a choice on b gives; where it gives nothing, b is false
pub nothing : (b : Bool) (n : ℕ) → cond b (Some n) None ≡ None → b ≡ false
nothing true n h = absurd (search rules)
nothing false n h = refl

-- nothing is found in a longer list: neither at its head nor behind it
pub behind : (b : Bool) (n len : ℕ) → nat_lt (cond (not b) (1 + n) 0) (suc len) ≡ false → (b ≡ false) × (nat_lt n len ≡ false)
behind true n len h = absurd (grind (arith, nat_tests))
behind false n len h = (refl, grind (arith, nat_tests))

unchanged_by : (is : Client → Bool) (change : Client → Client) (xs : List Client) → nat_lt (position_or_len is xs) (length xs) ≡ false → xs ≡ change_first is change xs
unchanged_by is change [] h = refl
unchanged_by is change (x ∷ xs) h =
    let b = behind (is x) (position_or_len is xs) (length xs) h in
    rw (b.0) (ap (λ ys. x ∷ ys) (unchanged_by is change xs (b.1)))

pub unchanged : (is : Client → Bool) (change : Client → Client) (xs : List Client) → position is xs ≡ None → xs ≡ change_first is change xs
unchanged is change xs none = unchanged_by is change xs (nothing (nat_lt (position_or_len is xs) (length xs)) (position_or_len is xs) none)

removed_at : (is : Client → Bool) (xs : List Client) (i : ℕ) (d : Client) → i < length xs → is (get_or xs i d) ≡ true → ((k : ℕ) → k < i → is (get_or xs k d) ≡ false) → remove xs i ≡ without_first is xs
removed_at is [] i d within so before = absurd (omega arith)
removed_at is (x ∷ xs) zero d within so before = rw so refl
removed_at is (x ∷ xs) (suc i) d within so before = rw (before 0 (omega arith)) (ap (λ ys. x ∷ ys) (removed_at is xs i d (omega arith) so (λ k less. before (suc k) (omega arith))))

pub removed : (is : Client → Bool) (xs : List Client) (i : ℕ) (d : Client) → position is xs ≡ Some i → remove xs i ≡ without_first is xs
removed is xs i d found =
    let p = position-Some is xs i d found in
    removed_at is xs i d (p.0) (p.1) (p.2)

unremoved_by : (is : Client → Bool) (xs : List Client) → nat_lt (position_or_len is xs) (length xs) ≡ false → xs ≡ without_first is xs
unremoved_by is [] h = refl
unremoved_by is (x ∷ xs) h =
    let b = behind (is x) (position_or_len is xs) (length xs) h in
    rw (b.0) (ap (λ ys. x ∷ ys) (unremoved_by is xs (b.1)))

pub unremoved : (is : Client → Bool) (xs : List Client) → position is xs ≡ None → xs ≡ without_first is xs
unremoved is xs none = unremoved_by is xs (nothing (nat_lt (position_or_len is xs) (length xs)) (position_or_len is xs) none)
