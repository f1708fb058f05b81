-- Property lists in which the indices of the inputs rise.
use Rattle.std.proofs.Common.{◌≡◌, ℕ, zero, suc, ◌+◌, ◌<◌, ◌≤◌, Bool, true, false, cond, List, [], ◌∷◌, ◌++◌, length, get_or, Option, Some, None, refl, ap, sym, subst, ◌∙◌, arith, nat_eq, nat_lt}
use Rattle.std.specs.List.{position, position_or_len}
use Rattle.std.specs.Prelude.{IsTrue, ◌-◌}
use Rattle.std.specs.List.Sorted.{IsNonDecreasingBy}
use Rattle.std.proofs.lemmas.Bool.Decides.{nat_tests}
use Rattle.std.proofs.lemmas.List.{get_or_read}
use Rattle.std.proofs.lemmas.List.Quantifiers.{position-Some}
use Rattle.std.proofs.lemmas.List.Sums.{position_or_len_is}
use Rattle.px_types.specs.declared.ids.InputId.{InputId}
use Rattle.px_tag.specs.PropList.{Property}
use Rattle.px_names.specs.declared.input_lists.InputList.{InputList}
use Rattle.px_names.specs.InputLists.{is_of, with_list_of, without_list_of, RisesFrom}

-- ---- order

weaker : (m n : ℕ) (xs : List InputList) → m ≤ n → RisesFrom n xs → RisesFrom m xs
weaker m n [] l r = tt
weaker m n (x ∷ xs) l r = (omega (arith, l, r.0), r.1)

least_at : (n k : ℕ) (xs : List InputList) (d : InputList) → RisesFrom n xs → k < length xs → n ≤ (InputList.input (get_or xs k d)).0
least_at n k [] d r few = absurd (omega (arith, few))
least_at n zero (x ∷ xs) d r few = r.0
least_at n (suc k) (x ∷ xs) d r few = omega (arith, r.0, least_at (x.input.0 + 1) k xs d r.1 (omega (arith, few)))

-- indices that rise don't fall
pub rising_by : (n : ℕ) (xs : List InputList) → RisesFrom n xs → IsNonDecreasingBy (λ l. (InputList.input l).0) xs
rising_by n [] r i j d l few = absurd (omega (arith, few))
rising_by n (x ∷ xs) r zero zero d l few = omega arith
rising_by n (x ∷ xs) r zero (suc j) d l few = omega (arith, least_at (x.input.0 + 1) j xs d r.1 (omega (arith, few)))
rising_by n (x ∷ xs) r (suc i) zero d l few = absurd (omega (arith, l))
rising_by n (x ∷ xs) r (suc i) (suc j) d l few = rising_by (x.input.0 + 1) xs r.1 i j d (omega (arith, l)) (omega (arith, few))

-- ---- what is found

lower_apart : (a b : ℕ) → a < b → nat_eq a b ≡ false
lower_apart a b l = grind (arith, nat_tests)

other_apart : (a b : ℕ) → b ≤ a → (a ≡ b → ⊥) → nat_eq a b ≡ false
other_apart a b l other = lower_apart_too (omega (arith, l, other))
  where
    lower_apart_too : b < a → nat_eq a b ≡ false
    lower_apart_too u = grind (arith, nat_tests)

same_eq : (a b : ℕ) → a ≡ b → nat_eq a b ≡ true
same_eq a b e = grind (arith, nat_tests)

below_so : (a b : ℕ) → a < b → nat_lt a b ≡ true
below_so a b l = grind (arith, nat_tests)

not_below_so : (a b : ℕ) → b ≤ a → nat_lt a b ≡ false
not_below_so a b l = grind (arith, nat_tests)

position_is : (input : InputId) (xs : List InputList) (k : ℕ) (b : Bool) → position_or_len (is_of input) xs ≡ k → nat_lt k (length xs) ≡ b → cond b (Some k) None ≡ position (is_of input) xs
position_is input xs k b at e = sym (ap (λ n. cond (nat_lt n (length xs)) (Some n) None) at ∙ ap (λ c. cond c (Some k) None) e)

pub found_here : (input : InputId) (xs : List InputList) (k : ℕ) (x : InputList) → k < length xs → x ≡ get_or xs k x → ((j : ℕ) (d : InputList) → j < k → (InputList.input (get_or xs j d)).0 < input.0)
    → x.input.0 ≡ input.0 → Some k ≡ position (is_of input) xs
found_here input xs k x few is below here =
    position_is input xs k true
    (position_or_len_is (is_of input) xs k x (omega (arith, few)) (λ j l. lower_apart _ input.0 (below j x l)) (λ l. ap (λ (y : InputList). is_of input y) (sym is) ∙ same_eq x.input.0 input.0 here))
    (below_so k (length xs) few)

absent : (input : InputId) (xs : List InputList) (d : InputList) → ((j : ℕ) → j < length xs → is_of input (get_or xs j d) ≡ false) → None ≡ position (is_of input) xs
absent input xs d none =
    position_is input xs (length xs) false (position_or_len_is (is_of input) xs (length xs) d (omega arith) none (λ l. absurd (omega (arith, l)))) (not_below_so (length xs) (length xs) (omega arith))

pub absent_at_end : (input : InputId) (xs : List InputList) (k : ℕ) → length xs ≤ k → ((j : ℕ) (d : InputList) → j < k → (InputList.input (get_or xs j d)).0 < input.0) → None ≡ position (is_of input) xs
absent_at_end input [] k few below = refl
absent_at_end input (x ∷ xs) k few below = absent input (x ∷ xs) x (λ j l. lower_apart _ input.0 (below j x (omega (arith, few, l))))

pub absent_here : (input : InputId) (xs : List InputList) (k : ℕ) (x : InputList) → k < length xs → x ≡ get_or xs k x → ((j : ℕ) (d : InputList) → j < k → (InputList.input (get_or xs j d)).0 < input.0)
    → RisesFrom 0 xs → input.0 ≤ x.input.0 → (x.input.0 ≡ input.0 → ⊥) → None ≡ position (is_of input) xs
absent_here input xs k x few is below rising l other = absent input xs x each
  where
    from_here : (j : ℕ) → k ≤ j → j < length xs → input.0 < (InputList.input (get_or xs j x)).0
    from_here j a b =
        let more : (InputList.input (get_or xs k x)).0 ≤ (InputList.input (get_or xs j x)).0 = rising_by 0 xs rising k j x a b in
        let here : x.input.0 ≡ (InputList.input (get_or xs k x)).0 = ap (λ (y : InputList). (InputList.input y).0) is in
        omega (arith, more, here, l, other)

    above_apart : (a b : ℕ) → b < a → nat_eq a b ≡ false
    above_apart a b u = grind (arith, nat_tests)

    by : (j : ℕ) → j < length xs → (b : Bool) → nat_lt j k ≡ b → is_of input (get_or xs j x) ≡ false
    by j u true e = lower_apart _ input.0 (below j x (grind (arith, nat_tests)))
    by j u false e = above_apart _ input.0 (from_here j (grind (arith, nat_tests)) u)

    each : (j : ℕ) → j < length xs → is_of input (get_or xs j x) ≡ false
    each j u = by j u (nat_lt j k) refl

-- ---- changes

-- the list of an input that has one is set: indices stay
set_at_rises : (n : ℕ) (input : InputId) (list : List Property) (xs : List InputList) (k : ℕ) (d : InputList) → k < length xs → is_of input (get_or xs k d) ≡ true → RisesFrom n xs
    → RisesFrom n (with_list_of input list xs)
set_at_rises n input list [] k d few here r = absurd (omega (arith, few))
set_at_rises n input list (x ∷ xs) zero d few here r = subst (λ b. RisesFrom n (cond b (record x { list = list } ∷ xs) (x ∷ with_list_of input list xs))) (sym here) (r.0, r.1)
set_at_rises n input list (x ∷ xs) (suc k) d few here r = by (set_at_rises (x.input.0 + 1) input list xs k d (omega (arith, few)) here r.1) (is_of input x)
  where
    by : RisesFrom (x.input.0 + 1) (with_list_of input list xs) → (b : Bool) → RisesFrom n (cond b (record x { list = list } ∷ xs) (x ∷ with_list_of input list xs))
    by later true = (r.0, r.1)
    by later false = (r.0, later)

pub set_rises : (n : ℕ) (input : InputId) (list : List Property) (xs : List InputList) (i : ℕ) (d : InputList) → position (is_of input) xs ≡ Some i → RisesFrom n xs → RisesFrom n (with_list_of input list xs)
set_rises n input list xs i d found r =
    let p = position-Some (is_of input) xs i d found in
    set_at_rises n input list xs i d (p.0) (p.1) r

-- a list is removed
pub removed_rises : (n : ℕ) (input : InputId) (xs : List InputList) → RisesFrom n xs → RisesFrom n (without_list_of input xs)
removed_rises n input [] r = tt
removed_rises n input (x ∷ xs) r = by (removed_rises (x.input.0 + 1) input xs r.1) (is_of input x)
  where
    by : RisesFrom (x.input.0 + 1) (without_list_of input xs) → (b : Bool) → RisesFrom n (cond b xs (x ∷ without_list_of input xs))
    by later true = weaker n (x.input.0 + 1) xs (omega (arith, r.0)) r.1
    by later false = (r.0, later)

-- a list comes last, above all others
pub pushed_rises : (n : ℕ) (xs : List InputList) (y : InputList) → RisesFrom n xs → n ≤ y.input.0 → ((k : ℕ) (d : InputList) → k < length xs → (InputList.input (get_or xs k d)).0 < y.input.0) → RisesFrom n (xs ++ y ∷ [])
pushed_rises n [] y r l above = (l, tt)
pushed_rises n (x ∷ xs) y r l above = (r.0, pushed_rises (x.input.0 + 1) xs y r.1 (omega (arith, above 0 x (omega arith))) (λ k d u. above (suc k) d (omega (arith, u))))

-- which follows from the last one's index
truly_below : (a b : ℕ) → IsTrue (nat_lt a b) → a < b
truly_below a b t = grind (arith, nat_tests)

pub follows_last : (xs : List InputList) (n : ℕ) (last y : InputList) (input : InputId) → last ≡ get_or xs (n - 1) last → n ≡ length xs → 0 < n → IsTrue (nat_lt last.input.0 input.0) → RisesFrom 0 xs → y.input ≡ input
    → RisesFrom 0 (xs ++ y ∷ [])
follows_last xs n last y input is long some t rising same =
    pushed_rises 0 xs y rising (omega arith) (λ k d u.
    let more : (InputList.input (get_or xs k d)).0 ≤ (InputList.input (get_or xs (n - 1) d)).0 = rising_by 0 xs rising k (n - 1) d (omega (arith, u, long)) (omega (arith, some, long)) in
    let at : last.input.0 ≡ (InputList.input (get_or xs (n - 1) d)).0 = ap (λ (z : InputList). (InputList.input z).0) (get_or_read xs (n - 1) last (omega (arith, some, long)) is d) in
    let above : input.0 ≡ y.input.0 = ap (λ (i : InputId). i.0) (sym same) in
    omega (arith, more, at, above, truly_below last.input.0 input.0 t))
