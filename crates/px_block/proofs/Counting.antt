-- How many blocks stand on a shelf, as the one under a key changes.
use Rattle.std.proofs.Common.{◌≡◌, ℕ, zero, suc, ◌+◌, List, [], ◌∷◌, refl, ap, ◌∙◌, arith, Option, None}
use Rattle.std.specs.Prelude.{◌≢◌, slice_index_or}
use Rattle.px_block.specs.Shelved.{Shelved, Shelves, under, one_of, count_of, blocks_on, SetsOnly}

abbrev at : List (Option Shelved) → ℕ → Option Shelved
at os k = slice_index_or os k None

same_count : (os ns : List (Option Shelved)) → ((k : ℕ) → at ns k ≡ at os k) → count_of ns ≡ count_of os
same_count [] [] e = refl
same_count [] (n ∷ ns) e =
    let rest : count_of ns ≡ 0 = same_count [] ns (λ k. e (suc k)) in
    let none : one_of n ≡ 0 = ap one_of (e 0) in
    omega arith
same_count (o ∷ os) [] e =
    let rest : 0 ≡ count_of os = same_count os [] (λ k. e (suc k)) in
    let none : 0 ≡ one_of o = ap one_of (e 0) in
    omega arith
same_count (o ∷ os) (n ∷ ns) e =
    let rest : count_of ns ≡ count_of os = same_count os ns (λ k. e (suc k)) in
    let same : one_of n ≡ one_of o = ap one_of (e 0) in
    omega arith

next : (k key : ℕ) → k ≢ key → suc k ≢ suc key
next k key n = λ e. n (omega arith)

behind : (k : ℕ) → suc k ≢ 0
behind k = λ e. absurd (omega arith)

before : (key : ℕ) → 0 ≢ suc key
before key = λ e. absurd (omega arith)

sets : (os ns : List (Option Shelved)) (key : ℕ) → ((k : ℕ) → k ≢ key → at ns k ≡ at os k) → count_of ns + one_of (at os key) ≡ count_of os + one_of (at ns key)
sets [] [] key e = refl
sets [] (n ∷ ns) zero e =
    let rest : count_of ns ≡ 0 = same_count [] ns (λ k. e (suc k) (behind k)) in
    omega arith
sets [] (n ∷ ns) (suc key) e =
    let none : one_of n ≡ 0 = ap one_of (e 0 (before key)) in
    let rest : count_of ns + 0 ≡ 0 + one_of (at ns key) = sets [] ns key (λ k d. e (suc k) (next k key d)) in
    omega arith
sets (o ∷ os) [] zero e =
    let rest : 0 ≡ count_of os = same_count os [] (λ k. e (suc k) (behind k)) in
    omega arith
sets (o ∷ os) [] (suc key) e =
    let none : 0 ≡ one_of o = ap one_of (e 0 (before key)) in
    let rest : 0 + one_of (at os key) ≡ count_of os + 0 = sets os [] key (λ k d. e (suc k) (next k key d)) in
    omega arith
sets (o ∷ os) (n ∷ ns) zero e =
    let rest : count_of ns ≡ count_of os = same_count os ns (λ k. e (suc k) (behind k)) in
    omega arith
sets (o ∷ os) (n ∷ ns) (suc key) e =
    let same : one_of n ≡ one_of o = ap one_of (e 0 (before key)) in
    let rest : count_of ns + one_of (at os key) ≡ count_of os + one_of (at ns key) = sets os ns key (λ k d. e (suc k) (next k key d)) in
    omega arith

-- one that comes is one more, and one that goes one less
pub blocks_set : (old new : Shelves) (key : ℕ) (o : Option Shelved) → SetsOnly old new key o → blocks_on new + one_of (under old key) ≡ blocks_on old + one_of o
blocks_set old new key o set =
    sets old.slots new.slots key (λ k d. set.others k d) ∙ ap (λ (p : Option Shelved). blocks_on old + one_of p) set.there

-- none where nothing stands under any key
pub blocks_none : (s : Shelves) → ((k : ℕ) → one_of (under s k) ≡ 0) → blocks_on s ≡ 0
blocks_none s none = all s.slots none
  where
    all : (os : List (Option Shelved)) → ((k : ℕ) → one_of (at os k) ≡ 0) → count_of os ≡ 0
    all [] e = refl
    all (o ∷ os) e =
        let rest : count_of os ≡ 0 = all os (λ k. e (suc k)) in
        let first : one_of o ≡ 0 = e 0 in
        omega arith
