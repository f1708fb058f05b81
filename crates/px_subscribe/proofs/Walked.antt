-- The events of a facility, object by object: by a walk through two lists in which indices rise, and by a search for each next object.
use Rattle.std.proofs.Common.{◌≡◌, ℕ, zero, suc, ◌+◌, ◌-◌, ◌<◌, ◌≤◌, ◌^◌, Bool, true, false, cond, List, [], ◌∷◌, ◌++◌, length, get_or, drop, Option, Some, None, refl, ap, sym, subst, ◌∙◌, arith}
use Rattle.std.specs.Prelude.{◌&&◌, nat_eq, nat_le, nat_lt, flat_map, option_map, All, IfSome}
use Rattle.std.specs.List.{range_with_len}
use Rattle.std.proofs.lemmas.List.{append-nil, drop_more}
use Rattle.std.proofs.lemmas.List.Elements.{All-drop}
use Rattle.std.proofs.lemmas.Bool.Decides.{nat_tests}
use Rattle.px_subscribe.specs.declared.event.Facility.{Facility}
use Rattle.px_subscribe.specs.declared.event.Event.{Event}
use Rattle.px_subscribe.specs.Became.{became, events_at}
use Rattle.px_subscribe.specs.Walk.{said, object_at, events_in, RisesFrom, first_index, head_at, rest_at, next_in}

-- ---- ranges

pub append_assoc : (a b c : List Event) → (a ++ b) ++ c ≡ a ++ (b ++ c)
append_assoc [] b c = refl
append_assoc (x ∷ a) b c = ap (λ (l : List Event). x ∷ l) (append_assoc a b c)

zero_plus : (b : ℕ) → 0 + b ≡ b
zero_plus b = omega arith

plus_zero : (s : ℕ) → s ≡ s + 0
plus_zero s = omega arith

suc_plus : (a b : ℕ) → suc a + b ≡ suc (a + b)
suc_plus a b = omega arith

next_plus : (s a : ℕ) → s + 1 + a ≡ s + suc a
next_plus s a = omega arith

whole : (from end : ℕ) → from ≤ end → end ≡ from + (end - from)
whole from end l = omega (arith, l)

module _ (f : ℕ → List Event) where
  split : (s a b : ℕ) → flat_map f (range_with_len s (a + b)) ≡ flat_map f (range_with_len s a) ++ flat_map f (range_with_len (s + a) b)
  split s zero b = ap (λ n. flat_map f (range_with_len s n)) (zero_plus b) ∙ ap (λ k. flat_map f (range_with_len k b)) (plus_zero s)
  split s (suc a) b =
      ap (λ n. flat_map f (range_with_len s n)) (suc_plus a b)
      ∙ ap (λ (l : List Event). f s ++ l) (split (s + 1) a b)
      ∙ sym (append_assoc (f s) (flat_map f (range_with_len (s + 1) a)) (flat_map f (range_with_len (s + 1 + a) b)))
      ∙ ap (λ k. (f s ++ flat_map f (range_with_len (s + 1) a)) ++ flat_map f (range_with_len k b)) (next_plus s a)

  none : (s n : ℕ) → ((i : ℕ) → s ≤ i → i < s + n → f i ≡ []) → flat_map f (range_with_len s n) ≡ []
  none s zero h = refl
  none s (suc n) h =
      ap (λ (l : List Event). l ++ flat_map f (range_with_len (s + 1) n)) (h s (omega arith) (omega arith))
      ∙ none (s + 1) n (λ i l u. h i (omega (arith, l)) (omega (arith, u)))

  -- from one place on nothing is told before the next
  ended_by : (from d : ℕ) → ((i : ℕ) → from ≤ i → i < from + d → f i ≡ []) → flat_map f (range_with_len 0 (from + d)) ≡ flat_map f (range_with_len 0 from)
  ended_by from d h =
      split 0 from d
      ∙ ap (λ k. flat_map f (range_with_len 0 from) ++ flat_map f (range_with_len k d)) (zero_plus from)
      ∙ ap (λ (l : List Event). flat_map f (range_with_len 0 from) ++ l) (none from d h)
      ∙ append-nil (flat_map f (range_with_len 0 from))

  one_more : (n : ℕ) → flat_map f (range_with_len 0 (n + 1)) ≡ flat_map f (range_with_len 0 n) ++ f n
  one_more n =
      split 0 n 1
      ∙ ap (λ k. flat_map f (range_with_len 0 n) ++ flat_map f (range_with_len k 1)) (zero_plus n)
      ∙ ap (λ (l : List Event). flat_map f (range_with_len 0 n) ++ l) (append-nil (f n))

  ended : (from end : ℕ) → from ≤ end → ((i : ℕ) → from ≤ i → i < end → f i ≡ []) → flat_map f (range_with_len 0 end) ≡ flat_map f (range_with_len 0 from)
  ended from end l h =
      ap (λ n. flat_map f (range_with_len 0 n)) (whole from end l)
      ∙ ended_by from (end - from) (λ i a b. h i a (omega (arith, b, l)))

  reached : (from next : ℕ) → from ≤ next → ((i : ℕ) → from ≤ i → i < next → f i ≡ []) → flat_map f (range_with_len 0 (next + 1)) ≡ flat_map f (range_with_len 0 from) ++ f next
  reached from next l h = one_more next ∙ ap (λ (front : List Event). front ++ f next) (ended from next l h)

-- two kinds of events that are equal from a place on
module _ (g h : ℕ → List Event) where
  same_from : (s n : ℕ) → ((i : ℕ) → s ≤ i → g i ≡ h i) → flat_map g (range_with_len s n) ≡ flat_map h (range_with_len s n)
  same_from s zero e = refl
  same_from s (suc n) e = λ k. e s (omega arith) k ++ same_from (s + 1) n (λ i l. e i (omega (arith, l))) k

split_at : (f : ℕ → List Event) (m d given : ℕ) → given ≡ m + d → flat_map f (range_with_len 0 given) ≡ flat_map f (range_with_len 0 m) ++ flat_map f (range_with_len m d)
split_at f m d given e =
    ap (λ n. flat_map f (range_with_len 0 n)) e ∙ split f 0 m d ∙ ap (λ k. flat_map f (range_with_len 0 m) ++ flat_map f (range_with_len k d)) (zero_plus m)

-- the first events of all, and those that are left
stepped : (g h : ℕ → List Event) (n given : ℕ) → n < given → ((i : ℕ) → i < n → g i ≡ []) → ((i : ℕ) → i ≤ n → h i ≡ []) → ((i : ℕ) → n < i → g i ≡ h i)
    → flat_map g (range_with_len 0 given) ≡ g n ++ flat_map h (range_with_len 0 given)
stepped g h n given l before until same =
    let d : ℕ = given - (n + 1) in
    let whole : given ≡ (n + 1) + d = omega (arith, l) in
    split_at g (n + 1) d given whole
    ∙ ap (λ (front : List Event). front ++ flat_map g (range_with_len (n + 1) d)) (reached g 0 n (omega arith) (λ i a b. before i b))
    ∙ ap (λ (rest : List Event). g n ++ rest) (same_from g h (n + 1) d (λ i a. same i (omega (arith, a))))
    ∙ ap (λ (rest : List Event). g n ++ rest)
    (sym (
    split_at h (n + 1) d given whole
    ∙ ap (λ (front : List Event). front ++ flat_map h (range_with_len (n + 1) d)) (none h 0 (n + 1) (λ i a b. until i (omega (arith, b))))))

-- ---- numbers

apart : (a i : ℕ) → i < a → nat_eq a i ≡ false
apart a i l = grind (arith, nat_tests)

same_place : (a i : ℕ) → nat_eq a i ≡ true → a ≡ i
same_place a i e = grind (arith, nat_tests)

further : (a n i : ℕ) → nat_eq a n ≡ true → n < i → nat_eq a i ≡ false
further a n i e l = grind (arith, nat_tests)

beyond : (a n : ℕ) → n ≤ a → nat_eq a n ≡ false → n + 1 ≤ a
beyond a n l e = grind (arith, nat_tests)

-- ---- lists in which indices rise

module _ {A : Type 0} (index : A → ℕ) where
  -- below the least index nothing is found
  none_below : (least i : ℕ) (xs : List A) → RisesFrom index least xs → i < least → object_at index xs i ≡ None
  none_below least i [] r l = refl
  none_below least i (x ∷ xs) r l =
      ap (λ b. cond b (Some x) (object_at index xs i)) (apart (index x) i (omega (arith, r.0, l))) ∙ none_below (index x + 1) i xs r.1 (omega (arith, r.0, l))

  -- the least index is found at the front alone
  head_found : (n : ℕ) (xs : List A) → RisesFrom index n xs → object_at index xs n ≡ head_at index n xs
  head_found n [] r = refl
  head_found n (x ∷ xs) r = ap (λ (o : Option A). cond (nat_eq (index x) n) (Some x) o) (none_below (index x + 1) n xs r.1 (omega (arith, r.0)))

  -- and each greater one after it
  rest_found : (n i : ℕ) (xs : List A) → n < i → object_at index xs i ≡ object_at index (rest_at index n xs) i
  rest_found n i [] l = refl
  rest_found n i (x ∷ xs) l = by (nat_eq (index x) n) refl
    where
      by : (b : Bool) → nat_eq (index x) n ≡ b → object_at index (x ∷ xs) i ≡ object_at index (cond b xs (x ∷ xs)) i
      by true e = ap (λ c. cond c (Some x) (object_at index xs i)) (further (index x) n i e l)
      by false e = refl

  pub rest_rises : (n : ℕ) (xs : List A) → RisesFrom index n xs → RisesFrom index (n + 1) (rest_at index n xs)
  rest_rises n [] r = tt
  rest_rises n (x ∷ xs) r = by (nat_eq (index x) n) refl
    where
      by : (b : Bool) → nat_eq (index x) n ≡ b → RisesFrom index (n + 1) (cond b xs (x ∷ xs))
      by true e = subst (λ m. RisesFrom index (m + 1) xs) (same_place (index x) n e) r.1
      by false e = (beyond (index x) n r.0 e, r.1)

  -- the first index is the least one
  rises_first : (from n end : ℕ) (xs : List A) → RisesFrom index from xs → n ≤ first_index index xs end → RisesFrom index n xs
  rises_first from n end [] r l = tt
  rises_first from n end (x ∷ xs) r l = (omega (arith, l), r.1)

  pub first_above : (from end : ℕ) (xs : List A) → RisesFrom index from xs → from ≤ end → from ≤ first_index index xs end
  first_above from end [] r l = l
  first_above from end (x ∷ xs) r l = omega (arith, r.0, l)

  first_below : (end : ℕ) (xs : List A) → first_index index xs end ≤ end
  first_below end [] = omega arith
  first_below end (x ∷ xs) = omega arith

  -- one more index is above those before it
  pub risen : (least k : ℕ) (xs : List A) (x : A) → k < length xs → x ≡ get_or xs k x → least ≤ index x → (RisesFrom index least (drop k xs) → RisesFrom index 0 xs)
      → RisesFrom index (index x + 1) (drop (k + 1) xs) → RisesFrom index 0 xs
  risen least k xs x few is l so far =
      so (subst (λ (ys : List A). RisesFrom index least ys) (sym (drop_more xs k x few)) (subst (λ y. RisesFrom index least (y ∷ drop (k + 1) xs)) is (l, far)))

  module _ (f : Facility) (bytes : A → List ℕ) (given : ℕ) where
    abbrev events : List A → List A → List Event
    events xs ys = events_in f index bytes xs ys given

    none_both : (xs ys : List A) (i : ℕ) → object_at index xs i ≡ None → object_at index ys i ≡ None → events_at f bytes (object_at index xs) (object_at index ys) i ≡ []
    none_both xs ys i p q = λ k. said f i (became bytes (p k) (q k))

    walk_step : (n : ℕ) (xs ys : List A) → n < given → RisesFrom index n xs → RisesFrom index n ys
        → events xs ys ≡ said f n (became bytes (head_at index n xs) (head_at index n ys)) ++ events (rest_at index n xs) (rest_at index n ys)
    walk_step n xs ys l r s =
        stepped (events_at f bytes (object_at index xs) (object_at index ys)) (events_at f bytes (object_at index (rest_at index n xs)) (object_at index (rest_at index n ys))) n given l
        (λ i a. none_both xs ys i (none_below n i xs r a) (none_below n i ys s a))
        (λ i a. none_both (rest_at index n xs) (rest_at index n ys) i
        (none_below (n + 1) i (rest_at index n xs) (rest_rises n xs r) (omega (arith, a))) (none_below (n + 1) i (rest_at index n ys) (rest_rises n ys s) (omega (arith, a))))
        (λ i a. λ k. said f i (became bytes (rest_found n i xs a k) (rest_found n i ys a k)))
        ∙ (λ k. said f n (became bytes (head_found n xs r k) (head_found n ys s k)) ++ events (rest_at index n xs) (rest_at index n ys))

    -- nothing is left where no index is below the end
    pub walk_done : (xs ys : List A) → RisesFrom index given xs → RisesFrom index given ys → events xs ys ≡ []
    walk_done xs ys r s = none (events_at f bytes (object_at index xs) (object_at index ys)) 0 given
        (λ i a b. none_both xs ys i (none_below given i xs r (omega (arith, b))) (none_below given i ys s (omega (arith, b))))

    -- the code's next index is the least one
    module _ (xs ys : List A) (from r n : ℕ) (rx : RisesFrom index from xs) (ry : RisesFrom index from ys) (p : r ≡ first_index index xs given) (q : n ≡ first_index index ys r) where
      below_r : n ≤ r
      below_r = subst (λ m. m ≤ r) (sym q) (first_below r ys)

      pub rises_x : RisesFrom index n xs
      rises_x = rises_first from n given xs rx (subst (λ m. n ≤ m) p below_r)

      pub rises_y : RisesFrom index n ys
      rises_y = rises_first from n r ys ry (subst (λ m. m ≤ first_index index ys r) (sym q) (omega arith))

      pub next_above : from ≤ given → from ≤ n
      next_above l = subst (λ m. from ≤ m) (sym q) (first_above from r ys ry (subst (λ m. from ≤ m) (sym p) (first_above from given xs rx l)))

      pub walked : (old new all : List Event) (x y : Option A) (xs' ys' : List A) → n < given → x ≡ head_at index n xs → y ≡ head_at index n ys → new ≡ old ++ said f n (became bytes x y)
          → xs' ≡ rest_at index n xs → ys' ≡ rest_at index n ys → old ++ events xs ys ≡ all → new ++ events xs' ys' ≡ all
      walked old new all x y xs' ys' l hx hy e ex ey before =
          (λ k. e k ++ events (ex k) (ey k))
          ∙ append_assoc old (said f n (became bytes x y)) (events (rest_at index n xs) (rest_at index n ys))
          ∙ (λ k. old ++ (said f n (became bytes (hx k) (hy k)) ++ events (rest_at index n xs) (rest_at index n ys)))
          ∙ ap (λ (t : List Event). old ++ t) (sym (walk_step n xs ys l rises_x rises_y))
          ∙ before

      pub left_x : (xs' : List A) → xs' ≡ rest_at index n xs → RisesFrom index (n + 1) xs'
      left_x xs' e = subst (λ (zs : List A). RisesFrom index (n + 1) zs) (sym e) (rest_rises n xs rises_x)

      pub left_y : (ys' : List A) → ys' ≡ rest_at index n ys → RisesFrom index (n + 1) ys'
      left_y ys' e = subst (λ (zs : List A). RisesFrom index (n + 1) zs) (sym e) (rest_rises n ys rises_y)

      pub all_walked : (old all : List Event) → given ≤ n → old ++ events xs ys ≡ all → old ≡ all
      all_walked old all l before =
          sym (append-nil old)
          ∙ ap (λ (t : List Event). old ++ t) (sym (walk_done xs ys (rises_first n given given xs rises_x (subst (λ m. given ≤ m) p (omega (arith, l, below_r)))) (rises_first n given r ys rises_y (subst (λ m. given ≤ m) q l))))
          ∙ before

    pub all_done : (xs ys : List A) (from : ℕ) (old all : List Event) → given ≤ from → RisesFrom index from xs → RisesFrom index from ys → old ++ events xs ys ≡ all → old ≡ all
    all_done xs ys from old all l rx ry before =
        sym (append-nil old)
        ∙ ap (λ (t : List Event). old ++ t) (sym (none (events_at f bytes (object_at index xs) (object_at index ys)) 0 given
        (λ i a b. none_both xs ys i (none_below from i xs rx (omega (arith, b, l))) (none_below from i ys ry (omega (arith, b, l))))))
        ∙ before

-- ---- the next index in any list

near_below : (a i e : ℕ) → cond (nat_le a i && nat_lt i e) i e ≤ e
near_below a i e = by (nat_le a i) (nat_lt i e) refl
  where
    by : (b c : Bool) → nat_lt i e ≡ c → cond (b && c) i e ≤ e
    by true true t = grind (arith, nat_tests)
    by true false t = omega arith
    by false c t = omega arith

near_above : (a i e : ℕ) → a ≤ e → a ≤ cond (nat_le a i && nat_lt i e) i e
near_above a i e l = by (nat_le a i) (nat_lt i e) refl
  where
    by : (b c : Bool) → nat_le a i ≡ b → a ≤ cond (b && c) i e
    by true true t = grind (arith, nat_tests)
    by true false t = l
    by false c t = l

near_apart : (a i e k : ℕ) → a ≤ k → k < cond (nat_le a i && nat_lt i e) i e → nat_eq i k ≡ false
near_apart a i e k l = by (nat_le a i) (nat_lt i e) refl refl
  where
    by : (b c : Bool) → nat_le a i ≡ b → nat_lt i e ≡ c → k < cond (b && c) i e → nat_eq i k ≡ false
    by true true s t u = grind (arith, nat_tests)
    by true false s t u = grind (arith, nat_tests)
    by false c s t u = grind (arith, nat_tests)

-- the nearer of two bounds has 32 bits where it lies below the end
pub nearer_fits : (here middle end : ℕ) → here ≤ middle → (middle < end → middle < 2 ^ 32) → (here < middle → here < 2 ^ 32) → here < end → here < 2 ^ 32
nearer_fits here middle end l m h u = by (nat_lt here middle) refl
  where
    by : (b : Bool) → nat_lt here middle ≡ b → here < 2 ^ 32
    by true t = h (grind (arith, nat_tests))
    by false t =
        let s : middle ≤ here = grind (arith, nat_tests) in
        let fits : middle < 2 ^ 32 = m (omega (arith, s, u)) in
        omega (arith, l, fits)

module _ {A : Type 0} (index : A → ℕ) where
  abbrev nearer : ℕ → A → ℕ → ℕ
  nearer from x end = cond (nat_le from (index x) && nat_lt (index x) end) (index x) end

  next_below : (xs : List A) (from end : ℕ) → next_in index xs from end ≤ end
  next_below [] from end = omega arith
  next_below (x ∷ xs) from end = omega (arith, next_below xs from (nearer from x end), near_below from (index x) end)

  next_least : (xs : List A) (from end : ℕ) → from ≤ end → from ≤ next_in index xs from end
  next_least [] from end l = l
  next_least (x ∷ xs) from end l = next_least xs from (nearer from x end) (near_above from (index x) end l)

  none_until : (xs : List A) (from end i : ℕ) → from ≤ i → i < next_in index xs from end → object_at index xs i ≡ None
  none_until [] from end i l u = refl
  none_until (x ∷ xs) from end i l u =
      ap (λ b. cond b (Some x) (object_at index xs i)) (near_apart from (index x) end i l (omega (arith, u, next_below xs from (nearer from x end))))
      ∙ none_until xs from (nearer from x end) i l u

  module _ (f : Facility) (bytes : A → List ℕ) (xs ys : List A) (from given r n : ℕ) (l : from ≤ given) (p : r ≡ next_in index xs from given) (q : n ≡ next_in index ys from r) where
    abbrev told : ℕ → List Event
    told = events_at f bytes (object_at index xs) (object_at index ys)

    reached_r : from ≤ r
    reached_r = subst (λ m. from ≤ m) (sym p) (next_least xs from given l)

    pub searched_below : n ≤ r
    searched_below = subst (λ m. m ≤ r) (sym q) (next_below ys from r)

    pub searched_above : from ≤ n
    searched_above = subst (λ m. from ≤ m) (sym q) (next_least ys from r reached_r)

    quiet_until : (i : ℕ) → from ≤ i → i < n → told i ≡ []
    quiet_until i a b =
        none_both index f bytes given xs ys i
        (none_until xs from given i a (subst (λ m. i < m) p (omega (arith, b, searched_below))))
        (none_until ys from r i a (subst (λ m. i < m) q b))

    pub searched : (start old new : List Event) (x y : Option A) → x ≡ object_at index xs n → y ≡ object_at index ys n → new ≡ old ++ said f n (became bytes x y)
        → old ≡ start ++ events_in f index bytes xs ys from → new ≡ start ++ events_in f index bytes xs ys (n + 1)
    searched start old new x y hx hy e before =
        e
        ∙ (λ k. before k ++ said f n (became bytes (hx k) (hy k)))
        ∙ append_assoc start (events_in f index bytes xs ys from) (told n)
        ∙ ap (λ (t : List Event). start ++ t) (sym (reached told from n searched_above quiet_until))

    pub all_searched : (start old : List Event) → given ≤ n → old ≡ start ++ events_in f index bytes xs ys from → old ≡ start ++ events_in f index bytes xs ys given
    all_searched start old e before = before ∙ ap (λ (t : List Event). start ++ t) (sym (ended told from given l (λ i a b. quiet_until i a (omega (arith, b, e)))))

-- ---- an object of a list is one of those that may be written

module _ {A : Type 0} (index : A → ℕ) (W : A → Type 0) where
  found_writable : (xs : List A) (i : ℕ) → All W xs → IfSome (object_at index xs i) W
  found_writable [] i all = tt
  found_writable (x ∷ xs) i all = by (found_writable xs i (λ k d l. all (suc k) d (omega (arith, l)))) (nat_eq (index x) i)
    where
      by : IfSome (object_at index xs i) W → (b : Bool) → IfSome (cond b (Some x) (object_at index xs i)) W
      by later true = all 0 x (omega arith)
      by later false = later

  head_writable : (xs : List A) (n : ℕ) → All W xs → IfSome (head_at index n xs) W
  head_writable [] n all = tt
  head_writable (x ∷ xs) n all = by (nat_eq (index x) n)
    where
      by : (b : Bool) → IfSome (cond b (Some x) None) W
      by true = all 0 x (omega arith)
      by false = tt

  module _ {B : Type 0} (now : B → A) where
    through : (o : Option B) → IfSome (option_map now o) W → IfSome o (λ x. W (now x))
    through None w = w
    through (Some x) w = w

    pub writable_at : (o : Option B) (xs : List A) (i : ℕ) → option_map now o ≡ object_at index xs i → All W xs → IfSome o (λ x. W (now x))
    writable_at o xs i e all = through o (subst (λ (m : Option A). IfSome m W) (sym e) (found_writable xs i all))

    pub writable_first : (o : Option B) (xs : List A) (b n : ℕ) → option_map now o ≡ head_at index n (drop b xs) → All W xs → IfSome o (λ x. W (now x))
    writable_first o xs b n e all = through o (subst (λ (m : Option A). IfSome m W) (sym e) (head_writable (drop b xs) n (All-drop W b xs all)))
