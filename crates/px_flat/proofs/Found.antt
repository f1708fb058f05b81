-- A member found at a place, and the members after it has changed.
use Rattle.std.proofs.Common.{arith, rules, ◌≡◌, ℕ, ◌+◌, ◌<◌, nat_lt, not, Bool, true, false, cond, List, [], ◌∷◌, suc, zero, length, get_or, slice_set, None, Some, Option, refl, ap, sym, subst, inl, inr}
use Rattle.std.specs.Prelude.{IsSome, IfSome}
use Rattle.std.proofs.lemmas.Bool.{cases_Bool}
use Rattle.std.proofs.lemmas.Bool.Decides.{nat_tests}
use Rattle.std.proofs.lemmas.List.Quantifiers.{position-Some}
use Rattle.std.specs.List.{AllByRecursion, find, position, remove, position_or_len}
use Rattle.px_flat.specs.FlatVolume.{change_first, without_first}
use Rattle.px_flat.specs.declared.member.Member.{Member}

changed_at : (is : Member → Bool) (change : Member → Member) (xs : List Member) (i : ℕ) (d : Member) → i < length xs → is (get_or xs i d) ≡ true → ((k : ℕ) → k < i → is (get_or xs k d) ≡ false) → change_first is change xs ≡ slice_set xs i (change (get_or xs i d))
changed_at is change [] i d within so before = absurd (omega arith)
changed_at is change (x ∷ xs) zero d within so before = rw so refl
changed_at is change (x ∷ xs) (suc i) d within so before = rw (before 0 (omega arith)) (ap (λ ys. x ∷ ys) (changed_at is change xs i d (omega arith) so (λ k less. before (suc k) (omega arith))))

pub changed : (is : Member → Bool) (change : Member → Member) (xs : List Member) (i : ℕ) (d : Member) → position is xs ≡ Some i → change_first is change xs ≡ slice_set xs i (change (get_or xs i d))
changed is change xs i d found =
    let p = position-Some is xs i d found in
    changed_at is change xs i d (p.0) (p.1) (p.2)

-- an option is what a choice on b gives; where it gives nothing, b is false
nothing : (b : Bool) (n : ℕ) → cond b (Some n) None ≡ None → b ≡ false
nothing true n h = absurd (search rules)
nothing false n h = refl

-- nothing is found in a longer list: neither at its head nor behind it
behind : (b : Bool) (n len : ℕ) → nat_lt (cond (not b) (1 + n) 0) (suc len) ≡ false → (b ≡ false) × (nat_lt n len ≡ false)
behind true n len h = absurd (grind (arith, nat_tests))
behind false n len h = (refl, grind (arith, nat_tests))

unchanged_by : (is : Member → Bool) (change : Member → Member) (xs : List Member) → nat_lt (position_or_len is xs) (length xs) ≡ false → xs ≡ change_first is change xs
unchanged_by is change [] h = refl
unchanged_by is change (x ∷ xs) h =
    let b = behind (is x) (position_or_len is xs) (length xs) h in
    rw (b.0) (ap (λ ys. x ∷ ys) (unchanged_by is change xs (b.1)))

pub unchanged : (is : Member → Bool) (change : Member → Member) (xs : List Member) → position is xs ≡ None → xs ≡ change_first is change xs
unchanged is change xs none = unchanged_by is change xs (nothing (nat_lt (position_or_len is xs) (length xs)) (position_or_len is xs) none)

removed_at : (is : Member → Bool) (xs : List Member) (i : ℕ) (d : Member) → i < length xs → is (get_or xs i d) ≡ true → ((k : ℕ) → k < i → is (get_or xs k d) ≡ false) → remove xs i ≡ without_first is xs
removed_at is [] i d within so before = absurd (omega arith)
removed_at is (x ∷ xs) zero d within so before = rw so refl
removed_at is (x ∷ xs) (suc i) d within so before = rw (before 0 (omega arith)) (ap (λ ys. x ∷ ys) (removed_at is xs i d (omega arith) so (λ k less. before (suc k) (omega arith))))

pub removed : (is : Member → Bool) (xs : List Member) (i : ℕ) (d : Member) → position is xs ≡ Some i → remove xs i ≡ without_first is xs
removed is xs i d found =
    let p = position-Some is xs i d found in
    removed_at is xs i d (p.0) (p.1) (p.2)

unremoved_by : (is : Member → Bool) (xs : List Member) → nat_lt (position_or_len is xs) (length xs) ≡ false → xs ≡ without_first is xs
unremoved_by is [] h = refl
unremoved_by is (x ∷ xs) h =
    let b = behind (is x) (position_or_len is xs) (length xs) h in
    rw (b.0) (ap (λ ys. x ∷ ys) (unremoved_by is xs (b.1)))

pub unremoved : (is : Member → Bool) (xs : List Member) → position is xs ≡ None → xs ≡ without_first is xs
unremoved is xs none = unremoved_by is xs (nothing (nat_lt (position_or_len is xs) (length xs)) (position_or_len is xs) none)

-- what is found first is at its place
found_at : (is : Member → Bool) (xs : List Member) (i : ℕ) (d : Member) → i < length xs → is (get_or xs i d) ≡ true → ((k : ℕ) → k < i → is (get_or xs k d) ≡ false) → find is xs ≡ Some (get_or xs i d)
found_at is [] i d within so before = absurd (omega arith)
found_at is (x ∷ xs) zero d within so before = rw so refl
found_at is (x ∷ xs) (suc i) d within so before = rw (before 0 (omega arith)) (found_at is xs i d (omega arith) so (λ k less. before (suc k) (omega arith)))

pub found : (is : Member → Bool) (xs : List Member) (i : ℕ) (d : Member) → position is xs ≡ Some i → find is xs ≡ Some (get_or xs i d)
found is xs i d e =
    let p = position-Some is xs i d e in
    found_at is xs i d (p.0) (p.1) (p.2)

unfound_by : (is : Member → Bool) (xs : List Member) → nat_lt (position_or_len is xs) (length xs) ≡ false → find is xs ≡ None
unfound_by is [] h = refl
unfound_by is (x ∷ xs) h =
    let b = behind (is x) (position_or_len is xs) (length xs) h in
    rw (b.0) (unfound_by is xs (b.1))

pub unfound : (is : Member → Bool) (xs : List Member) → position is xs ≡ None → find is xs ≡ None
unfound is xs none = unfound_by is xs (nothing (nat_lt (position_or_len is xs) (length xs)) (position_or_len is xs) none)

-- so what is there has a place
pub has_place : (is : Member → Bool) (xs : List Member) (place : Option ℕ) → place ≡ position is xs → IsSome (find is xs) → IsSome place
has_place is xs None e some = subst IsSome (unfound is xs (sym e)) some
has_place is xs (Some i) e some = search rules

-- what holds of the one that is found, where one is
pub found_has : (P : Member → Type 0) (is : Member → Bool) (xs : List Member) (i : ℕ) (d : Member) → position is xs ≡ Some i
    → IfSome (find is xs) P → P (get_or xs i d)
found_has P is xs i d e holds = rw (found is xs i d e) at holds

some_is : (x y : Member) → Some x ≡ Some y → x ≡ y
some_is x y same = cc

-- and what holds of all holds of it
pub found_all : (P : Member → Type 0) (is : Member → Bool) (xs : List Member) (m : Member) → AllByRecursion P xs → find is xs ≡ Some m → P m
found_all P is [] m all e = absurd (search rules)
found_all P is (x ∷ xs) m all e = elim (cases_Bool (is x)) [
  | inl this ↦ subst P (some_is x m (rw this at e)) all.0
  | inr other ↦ found_all P is xs m all.1 (rw other at e)
]
