-- Members of a group in which the indices of the inputs rise.
use Rattle.std.proofs.Common.{◌≡◌, ℕ, zero, suc, ◌+◌, ◌<◌, ◌≤◌, false, cond, List, [], ◌∷◌, length, get_or, drop, Option, Some, None, refl, ap, sym, subst, ◌∙◌, arith, nat_eq}
use Rattle.std.specs.List.Sorted.{IsNonDecreasingBy}
use Rattle.std.proofs.lemmas.Bool.Decides.{nat_tests}
use Rattle.std.proofs.lemmas.List.{drop_more}
use Rattle.px_types.specs.declared.ids.InputId.{InputId}
use Rattle.px_flat.specs.declared.member.Member.{Member}
use Rattle.px_flat.specs.FlatVolume.{member_of}
use Rattle.px_flat.specs.Member.{is_input}
use Rattle.px_ctl_info.specs.Infos.{RisesFrom, first_of}

-- ---- order

least_at : (n k : ℕ) (ms : List Member) (d : Member) → RisesFrom n ms → k < length ms → n ≤ (Member.input (get_or ms k d)).0
least_at n k [] d r few = absurd (omega (arith, few))
least_at n zero (m ∷ ms) d r few = r.0
least_at n (suc k) (m ∷ ms) d r few = omega (arith, r.0, least_at (m.input.0 + 1) k ms d r.1 (omega (arith, few)))

-- indices that rise don't fall
pub rising_by : (n : ℕ) (ms : List Member) → RisesFrom n ms → IsNonDecreasingBy (λ m. (Member.input m).0) ms
rising_by n [] r i j d l few = absurd (omega (arith, few))
rising_by n (m ∷ ms) r zero zero d l few = omega arith
rising_by n (m ∷ ms) r zero (suc j) d l few = omega (arith, least_at (m.input.0 + 1) j ms d r.1 (omega (arith, few)))
rising_by n (m ∷ ms) r (suc i) zero d l few = absurd (omega (arith, l))
rising_by n (m ∷ ms) r (suc i) (suc j) d l few = rising_by (m.input.0 + 1) ms r.1 i j d (omega (arith, l)) (omega (arith, few))

-- one more index is above those before it
pub risen : (least k : ℕ) (ms : List Member) (m : Member) → k < length ms → m ≡ get_or ms k m → least ≤ m.input.0 → (RisesFrom least (drop k ms) → RisesFrom 0 ms)
    → RisesFrom (m.input.0 + 1) (drop (k + 1) ms) → RisesFrom 0 ms
risen least k ms m few is l so far =
    so (subst (λ (rest : List Member). RisesFrom least rest) (sym (drop_more ms k m few)) (subst (λ (y : Member). RisesFrom least (y ∷ drop (k + 1) ms)) is (l, far)))

-- ---- what is found

apart : (a b : ℕ) → b < a → nat_eq a b ≡ false
apart a b l = grind (arith, nat_tests)

under : (a b : ℕ) → a < b → nat_eq a b ≡ false
under a b l = grind (arith, nat_tests)

none_above : (input : InputId) (least : ℕ) (ms : List Member) → RisesFrom least ms → input.0 < least → member_of ms input ≡ None
none_above input least [] r l = refl
none_above input least (m ∷ ms) r l =
    ap (λ b. cond b (Some m) (member_of ms input)) (apart m.input.0 input.0 (omega (arith, r.0, l))) ∙ none_above input (m.input.0 + 1) ms r.1 (omega (arith, r.0, l))

-- the member with an index stands first among those after the lower ones
pub found_after : (n : ℕ) (input : InputId) (k : ℕ) (ms : List Member) → RisesFrom n ms → ((j : ℕ) (d : Member) → j < k → (Member.input (get_or ms j d)).0 < input.0) → k ≤ length ms
    → ((d : Member) → k < length ms → input.0 ≤ (Member.input (get_or ms k d)).0) → first_of input (drop k ms) ≡ member_of ms input
found_after n input zero [] r below few end = refl
found_after n input zero (m ∷ ms) r below few end =
    ap (λ (o : Option Member). cond (is_input input m) (Some m) o) (sym (none_above input (m.input.0 + 1) ms r.1 (omega (arith, end m (omega arith)))))
found_after n input (suc k) [] r below few end = absurd (omega (arith, few))
found_after n input (suc k) (m ∷ ms) r below few end =
    found_after (m.input.0 + 1) input k ms r.1 (λ j d l. below (suc j) d (omega (arith, l))) (omega (arith, few)) (λ d l. end d (omega (arith, l)))
    ∙ sym (ap (λ b. cond b (Some m) (member_of ms input)) (under m.input.0 input.0 (below 0 m (omega arith))))
