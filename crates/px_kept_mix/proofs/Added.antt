-- What inputs add up to, by recursion.
use Rattle.std.proofs.Common.{◌≡◌, ℕ, suc, ◌<◌, List, [], ◌∷◌, length, map, cond, true, false, Option, None, Some, refl, ap, sym, ◌∙◌, subst, arith, ⊎_elim, ℤ, pos, ◌+ℤ◌, ◌-ℤ◌}
use Rattle.std.specs.Prelude.{nat_lt, ◌==◌, not}
use Rattle.std.specs.List.{fold, AllByRecursion}
use Rattle.std.proofs.lemmas.Int.{ints}
use Rattle.std.proofs.lemmas.Bool.Decides.{nat_tests}
use Rattle.std.proofs.lemmas.Bool.{cases_Bool, cond-true, cond-false, ltb-true, eqb-true}
use Rattle.px_model.specs.Stream.{Stream}
use Rattle.px_model.specs.Sink.{Input, AllAbove, IsRising, streams_of, stream_at, with_stream, with_change, with_input, without_input}
use Rattle.px_kept_mix.specs.Kept.{IsSumOf, changed_there}

-- ---- numbers

head_goes : (a b r : ℤ) → b +ℤ r ≡ ((a +ℤ r) -ℤ a) +ℤ b
head_goes a b r = omega (arith, ints)

head_stays : (a r t u : ℤ) → a +ℤ ((r -ℤ t) +ℤ u) ≡ ((a +ℤ r) -ℤ t) +ℤ u
head_stays a r t u = omega (arith, ints)

nothing_goes : (r b : ℤ) → b +ℤ r ≡ (r -ℤ pos 0) +ℤ b
nothing_goes r b = omega (arith, ints)

head_leaves : (a r : ℤ) → r ≡ ((a +ℤ r) -ℤ a) +ℤ pos 0
head_leaves a r = omega (arith, ints)

nothing_comes : pos 0 ≡ (pos 0 -ℤ pos 0) +ℤ pos 0
nothing_comes = refl

zero_first : (x : ℤ) → x ≡ x +ℤ pos 0
zero_first x = omega (arith, ints)

grouped : (z a r : ℤ) → (z +ℤ a) +ℤ r ≡ z +ℤ (a +ℤ r)
grouped z a r = omega (arith, ints)

pub none_sums : IsSumOf 0 (pos 0)
none_sums = record { low = omega (arith, ints); high = omega (arith, ints) }

pub one_sums : (n : ℕ) (a b : ℤ) → IsSumOf 1 a → IsSumOf n b → IsSumOf (suc n) (a +ℤ b)
one_sums n a b one others = record { low = omega (arith, ints, one.low, others.low); high = omega (arith, ints, one.high, others.high) }

-- ---- the inputs of an index

-- none of the others has it
pub above_same : (i : ℕ) (g : Stream → Stream) (xs : List Input) → AllAbove i xs → with_change i g xs ≡ xs
above_same i g [] h = refl
above_same i g (x ∷ xs) h = λ j. cond-false (x.index == i) (with_stream g x) x (other x.index i h.0) j ∷ above_same i g xs h.1 j where
  other : (a b : ℕ) → b < a → (a == b) ≡ false
  other a b l = grind (arith, nat_tests)

pub above_none : (i : ℕ) (xs : List Input) → AllAbove i xs → stream_at i xs ≡ None
above_none i [] h = refl
above_none i (x ∷ xs) h = cond-false (x.index == i) (Some x.stream) (stream_at i xs) (other x.index i h.0) ∙ above_none i xs h.1 where
  other : (a b : ℕ) → b < a → (a == b) ≡ false
  other a b l = grind (arith, nat_tests)

pub above_left : (i : ℕ) (xs : List Input) → AllAbove i xs → without_input i xs ≡ xs
above_left i [] h = refl
above_left i (x ∷ xs) h = cond-true (not (x.index == i)) (x ∷ without_input i xs) (without_input i xs) (other x.index i h.0) ∙ (λ j. x ∷ above_left i xs h.1 j) where
  other : (a b : ℕ) → b < a → not (a == b) ≡ true
  other a b l = grind (arith, nat_tests)

above_less : (i j : ℕ) (xs : List Input) → i < j → AllAbove j xs → AllAbove i xs
above_less i j [] l h = tt
above_less i j (x ∷ xs) l h = (omega (arith, h.0, l), above_less i j xs l h.1)

less_other : (a b : ℕ) → b < a → (a == b) ≡ false
less_other a b l = grind (arith, nat_tests)

is_there : (a b : ℕ) → (a == b) ≡ true → not (a == b) ≡ false
is_there a b e = ap not e

is_other : (a b : ℕ) → (a == b) ≡ false → not (a == b) ≡ true
is_other a b e = ap not e

-- ---- what they add up to

module _ (f : Stream → ℤ) where
  abbrev pub added : List Input → ℤ
  added [] = pos 0
  added (x ∷ xs) = f x.stream +ℤ added xs

  abbrev pub there : Option Stream → ℤ
  there None = pos 0
  there (Some s) = f s

  folded : (z : ℤ) (xs : List Input) → fold ◌+ℤ◌ z (map f (streams_of xs)) ≡ z +ℤ added xs
  folded z [] = zero_first z
  folded z (x ∷ xs) = folded (z +ℤ f x.stream) xs ∙ grouped z (f x.stream) (added xs)

  pub fold_added : (xs : List Input) → fold ◌+ℤ◌ (pos 0) (map f (streams_of xs)) ≡ added xs
  fold_added xs = folded (pos 0) xs ∙ zero_before (added xs) where
    zero_before : (x : ℤ) → pos 0 +ℤ x ≡ x
    zero_before x = omega (arith, ints)

  pub added_range : (xs : List Input) → AllByRecursion (λ x. IsSumOf 1 (f (Input.stream x))) xs → IsSumOf (length xs) (added xs)
  added_range [] h = none_sums
  added_range (x ∷ xs) h = one_sums (length xs) (f x.stream) (added xs) h.0 (added_range xs h.1)

  -- one is changed
  pub added_changed : (i : ℕ) (g : Stream → Stream) (xs : List Input) → IsRising xs
      → added (with_change i g xs) ≡ (added xs -ℤ there (stream_at i xs)) +ℤ there (changed_there g (stream_at i xs))
  added_changed i g [] rising = nothing_comes
  added_changed i g (x ∷ xs) rising =
      ⊎_elim
      (λ (yes : (x.index == i) ≡ true).
      ap (λ (y : Input). f y.stream +ℤ added (with_change i g xs)) (cond-true (x.index == i) (with_stream g x) x yes)
      ∙ ap (λ (ys : List Input). f (g x.stream) +ℤ added ys) (above_same i g xs (subst (λ (n : ℕ). AllAbove n xs) (eqb-true x.index i yes) rising.0))
      ∙ head_goes (f x.stream) (f (g x.stream)) (added xs)
      ∙ sym (ap (λ (o : Option Stream). ((f x.stream +ℤ added xs) -ℤ there o) +ℤ there (changed_there g o)) (cond-true (x.index == i) (Some x.stream) (stream_at i xs) yes)))
      (λ (no : (x.index == i) ≡ false).
      ap (λ (y : Input). f y.stream +ℤ added (with_change i g xs)) (cond-false (x.index == i) (with_stream g x) x no)
      ∙ ap (λ (z : ℤ). f x.stream +ℤ z) (added_changed i g xs rising.1)
      ∙ head_stays (f x.stream) (added xs) (there (stream_at i xs)) (there (changed_there g (stream_at i xs)))
      ∙ sym (ap (λ (o : Option Stream). ((f x.stream +ℤ added xs) -ℤ there o) +ℤ there (changed_there g o)) (cond-false (x.index == i) (Some x.stream) (stream_at i xs) no)))
      (cases_Bool (x.index == i))

  -- one comes
  pub added_come : (i : ℕ) (s : Stream) (xs : List Input) → IsRising xs → added (with_input i s xs) ≡ (added xs -ℤ there (stream_at i xs)) +ℤ f s
  added_come i s [] rising = nothing_goes (pos 0) (f s)
  added_come i s (x ∷ xs) rising =
      let new : Input = record { index = i; stream = s } in
      let all : ℤ = f x.stream +ℤ added xs in
      ⊎_elim
      (λ (low : nat_lt i x.index ≡ true).
      let less : i < x.index = ltb-true i x.index low in
      ap added (cond-true (nat_lt i x.index) (new ∷ (x ∷ xs)) (cond (x.index == i) (new ∷ xs) (x ∷ with_input i s xs)) low)
      ∙ nothing_goes (f x.stream +ℤ added xs) (f s)
      ∙ sym (ap (λ (o : Option Stream). ((f x.stream +ℤ added xs) -ℤ there o) +ℤ f s)
      (cond-false (x.index == i) (Some x.stream) (stream_at i xs) (less_other x.index i less) ∙ above_none i xs (above_less i x.index xs less rising.0))))
      (λ (high : nat_lt i x.index ≡ false).
      ap added (cond-false (nat_lt i x.index) (new ∷ (x ∷ xs)) (cond (x.index == i) (new ∷ xs) (x ∷ with_input i s xs)) high)
      ∙ ⊎_elim
      (λ (yes : (x.index == i) ≡ true).
      ap added (cond-true (x.index == i) (new ∷ xs) (x ∷ with_input i s xs) yes)
      ∙ head_goes (f x.stream) (f s) (added xs)
      ∙ sym (ap (λ (o : Option Stream). ((f x.stream +ℤ added xs) -ℤ there o) +ℤ f s) (cond-true (x.index == i) (Some x.stream) (stream_at i xs) yes)))
      (λ (no : (x.index == i) ≡ false).
      ap added (cond-false (x.index == i) (new ∷ xs) (x ∷ with_input i s xs) no)
      ∙ ap (λ (z : ℤ). f x.stream +ℤ z) (added_come i s xs rising.1)
      ∙ head_stays (f x.stream) (added xs) (there (stream_at i xs)) (f s)
      ∙ sym (ap (λ (o : Option Stream). ((f x.stream +ℤ added xs) -ℤ there o) +ℤ f s) (cond-false (x.index == i) (Some x.stream) (stream_at i xs) no)))
      (cases_Bool (x.index == i)))
      (cases_Bool (nat_lt i x.index))

  -- one leaves
  pub added_left : (i : ℕ) (xs : List Input) → IsRising xs → added (without_input i xs) ≡ (added xs -ℤ there (stream_at i xs)) +ℤ pos 0
  added_left i [] rising = nothing_comes
  added_left i (x ∷ xs) rising =
      ⊎_elim
      (λ (yes : (x.index == i) ≡ true).
      ap added (cond-false (not (x.index == i)) (x ∷ without_input i xs) (without_input i xs) (is_there x.index i yes)
      ∙ above_left i xs (subst (λ (n : ℕ). AllAbove n xs) (eqb-true x.index i yes) rising.0))
      ∙ head_leaves (f x.stream) (added xs)
      ∙ sym (ap (λ (o : Option Stream). ((f x.stream +ℤ added xs) -ℤ there o) +ℤ pos 0) (cond-true (x.index == i) (Some x.stream) (stream_at i xs) yes)))
      (λ (no : (x.index == i) ≡ false).
      ap added (cond-true (not (x.index == i)) (x ∷ without_input i xs) (without_input i xs) (is_other x.index i no))
      ∙ ap (λ (z : ℤ). f x.stream +ℤ z) (added_left i xs rising.1)
      ∙ head_stays (f x.stream) (added xs) (there (stream_at i xs)) (pos 0)
      ∙ sym (ap (λ (o : Option Stream). ((f x.stream +ℤ added xs) -ℤ there o) +ℤ pos 0) (cond-false (x.index == i) (Some x.stream) (stream_at i xs) no)))
      (cases_Bool (x.index == i))

-- each is replaced by one that adds the same
pub added_each : (f f' : Stream → ℤ) (g : Stream → Stream) (xs : List Input) → AllByRecursion (λ x. f' (g (Input.stream x)) ≡ f (Input.stream x)) xs
    → added f' (map (with_stream g) xs) ≡ added f xs
added_each f f' g [] h = refl
added_each f f' g (x ∷ xs) h = λ i. h.0 i +ℤ added_each f f' g xs h.1 i
