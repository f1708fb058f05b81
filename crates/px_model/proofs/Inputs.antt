-- Lists of inputs: in rising index, each with a stream of which something holds.
use Rattle.std.proofs.Common.{◌≡◌, ℕ, ◌<◌, ◌≤◌, List, [], ◌∷◌, map, Bool, refl, sym, subst, arith, cond}
use Rattle.std.specs.Prelude.{nat_lt, ◌==◌, not, filter}
use Rattle.std.specs.List.{AllByRecursion}
use Rattle.std.proofs.lemmas.Bool.{cond_both, ltb-true, ltb-false, eqb-true, eqb-false}
use Rattle.px_model.specs.Stream.{Stream}
use Rattle.px_model.specs.Sink.{Input, AllAbove, IsRising, with_input, without_input, with_stream, with_change}

pub record AreInputs (P : Stream → Type 0) (inputs : List Input) : Type 0 where
  pub rising : IsRising inputs
  pub streams : AllByRecursion (λ x. P (Input.stream x)) inputs

module _ (P : Stream → Type 0) where
  -- ---- a change of streams

  above_map : (f : Input → Input) → ((x : Input) → Input.index (f x) ≡ Input.index x) → (i : ℕ) (xs : List Input) → AllAbove i xs → AllAbove i (map f xs)
  above_map f e i [] h = tt
  above_map f e i (x ∷ xs) h = (subst (λ n. i < n) (sym (e x)) h.0, above_map f e i xs h.1)

  rising_map : (f : Input → Input) → ((x : Input) → Input.index (f x) ≡ Input.index x) → (xs : List Input) → IsRising xs → IsRising (map f xs)
  rising_map f e [] h = tt
  rising_map f e (x ∷ xs) h = (subst (λ n. AllAbove n (map f xs)) (sym (e x)) (above_map f e x.index xs h.0), rising_map f e xs h.1)

  streams_map : (f : Input → Input) → ((x : Input) → P (Input.stream x) → P (Input.stream (f x))) → (xs : List Input) → AllByRecursion (λ x. P (Input.stream x)) xs → AllByRecursion (λ x. P (Input.stream x)) (map f xs)
  streams_map f k [] h = tt
  streams_map f k (x ∷ xs) h = (k x h.0, streams_map f k xs h.1)

  pub each_keeps : (f : Stream → Stream) → ((s : Stream) → P s → P (f s)) → (xs : List Input) → AreInputs P xs → AreInputs P (map (with_stream f) xs)
  each_keeps f k xs h = record {
    rising = rising_map (with_stream f) (λ x. refl) xs h.rising;
    streams = streams_map (with_stream f) (λ x. k x.stream) xs h.streams;
  }

  pub change_keeps : (i : ℕ) (f : Stream → Stream) → ((s : Stream) → P s → P (f s)) → (xs : List Input) → AreInputs P xs → AreInputs P (with_change i f xs)
  change_keeps i f k xs h = record {
    rising = rising_map (λ x. cond (Input.index x == i) (with_stream f x) x) (λ x. cond_both (x.index == i) (with_stream f x) x (λ y. Input.index y ≡ x.index) (λ e. refl) (λ e. refl)) xs h.rising;
    streams = streams_map (λ x. cond (Input.index x == i) (with_stream f x) x) (λ x s. cond_both (x.index == i) (with_stream f x) x (λ y. P (Input.stream y)) (λ e. k x.stream s) (λ e. s)) xs h.streams;
  }

  -- ---- one left out

  above_filter : (p : Input → Bool) (i : ℕ) (xs : List Input) → AllAbove i xs → AllAbove i (filter p xs)
  above_filter p i [] h = tt
  above_filter p i (x ∷ xs) h = cond_both (p x) (x ∷ filter p xs) (filter p xs) (λ ys. AllAbove i ys) (λ e. (h.0, above_filter p i xs h.1)) (λ e. above_filter p i xs h.1)

  rising_filter : (p : Input → Bool) (xs : List Input) → IsRising xs → IsRising (filter p xs)
  rising_filter p [] h = tt
  rising_filter p (x ∷ xs) h = cond_both (p x) (x ∷ filter p xs) (filter p xs) IsRising (λ e. (above_filter p x.index xs h.0, rising_filter p xs h.1)) (λ e. rising_filter p xs h.1)

  streams_filter : (p : Input → Bool) (xs : List Input) → AllByRecursion (λ x. P (Input.stream x)) xs → AllByRecursion (λ x. P (Input.stream x)) (filter p xs)
  streams_filter p [] h = tt
  streams_filter p (x ∷ xs) h =
      cond_both (p x) (x ∷ filter p xs) (filter p xs) (λ ys. AllByRecursion (λ y. P (Input.stream y)) ys) (λ e. (h.0, streams_filter p xs h.1)) (λ e. streams_filter p xs h.1)

  pub without_keeps : (i : ℕ) (xs : List Input) → AreInputs P xs → AreInputs P (without_input i xs)
  without_keeps i xs h = record {
    rising = rising_filter (λ x. not (Input.index x == i)) xs h.rising;
    streams = streams_filter (λ x. not (Input.index x == i)) xs h.streams;
  }

  -- ---- one put in

  above_less : (i j : ℕ) (xs : List Input) → i < j → AllAbove j xs → AllAbove i xs
  above_less i j [] l h = tt
  above_less i j (x ∷ xs) l h = (omega (arith, h.0), above_less i j xs l h.1)

  above_with : (i j : ℕ) (s : Stream) (xs : List Input) → i < j → AllAbove i xs → AllAbove i (with_input j s xs)
  above_with i j s [] l h = (l, tt)
  above_with i j s (x ∷ xs) l h =
      cond_both (nat_lt j x.index) (record { index = j; stream = s } ∷ (x ∷ xs)) (cond (x.index == j) (record { index = j; stream = s } ∷ xs) (x ∷ with_input j s xs)) (AllAbove i)
      (λ e. (l, h))
      (λ e. cond_both (x.index == j) (record { index = j; stream = s } ∷ xs) (x ∷ with_input j s xs) (AllAbove i)
      (λ f. (l, h.1))
      (λ f. (h.0, above_with i j s xs l h.1)))

  rising_with : (j : ℕ) (s : Stream) (xs : List Input) → IsRising xs → IsRising (with_input j s xs)
  rising_with j s [] h = (tt, tt)
  rising_with j s (x ∷ xs) h =
      cond_both (nat_lt j x.index) (record { index = j; stream = s } ∷ (x ∷ xs)) (cond (x.index == j) (record { index = j; stream = s } ∷ xs) (x ∷ with_input j s xs)) IsRising
      (λ e. let l : j < x.index = ltb-true j x.index e in ((l, above_less j x.index xs l h.0), h))
      (λ e. cond_both (x.index == j) (record { index = j; stream = s } ∷ xs) (x ∷ with_input j s xs) IsRising
      (λ f. (subst (λ n. AllAbove n xs) (eqb-true x.index j f) h.0, h.1))
      (λ f. let l : x.index ≤ j = ltb-false j x.index e in let n : x.index ≡ j → ⊥ = eqb-false x.index j f in
      (above_with x.index j s xs (omega (arith, l, n)) h.0, rising_with j s xs h.1)))

  streams_with : (j : ℕ) (s : Stream) (xs : List Input) → P s → AllByRecursion (λ x. P (Input.stream x)) xs → AllByRecursion (λ x. P (Input.stream x)) (with_input j s xs)
  streams_with j s [] k h = (k, tt)
  streams_with j s (x ∷ xs) k h =
      cond_both (nat_lt j x.index) (record { index = j; stream = s } ∷ (x ∷ xs)) (cond (x.index == j) (record { index = j; stream = s } ∷ xs) (x ∷ with_input j s xs)) (λ ys. AllByRecursion (λ y. P (Input.stream y)) ys)
      (λ e. (k, h))
      (λ e. cond_both (x.index == j) (record { index = j; stream = s } ∷ xs) (x ∷ with_input j s xs) (λ ys. AllByRecursion (λ y. P (Input.stream y)) ys)
      (λ f. (k, h.1))
      (λ f. (h.0, streams_with j s xs k h.1)))

  pub with_keeps : (j : ℕ) (s : Stream) (xs : List Input) → P s → AreInputs P xs → AreInputs P (with_input j s xs)
  with_keeps j s xs k h = record { rising = rising_with j s xs h.rising; streams = streams_with j s xs k h.streams }
