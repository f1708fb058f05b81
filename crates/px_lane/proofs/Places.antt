-- Inputs of rising index with the one of an index changed, left out or put in.
use Rattle.std.proofs.Common.{◌≡◌, ℕ, zero, suc, ◌+◌, ◌<◌, ◌≤◌, List, [], ◌∷◌, length, Bool, true, false, Some, None, refl, ap, sym, ◌∙◌, subst, arith, cond}
use Rattle.std.specs.Prelude.{nat_lt, ◌==◌, not, slice_set, slice_index_or, insert, remove}
use Rattle.std.specs.List.{AllByRecursion}
use Rattle.std.proofs.lemmas.Bool.{cond-true, cond-false, eq-eqb, ne_eqb, lt-ltb, le-ltb}
use Rattle.px_model.specs.Stream.{Stream}
use Rattle.px_model.specs.Sink.{Input as Stands, AllAbove, IsRising, stream_at, with_input, without_input, with_stream, with_change}
use Rattle.px_lane.specs.declared.input.Input.{Input}
use Rattle.px_model.specs.Message.{StreamMessage}
use Rattle.px_stream.specs.Messages.{room_for, answer_for}
use Rattle.px_lane.specs.Taking.{is_overflow}
use Rattle.px_lane.specs.Inputs.{input_of, inputs_of, HasRoom}
use Rattle.px_lane.specs.Places.{AreBelow, IsAt, IsGap}

module _ (i : ℕ) where
  below_is : (n : ℕ) → n < i → (n == i) ≡ false
  below_is n l = ne_eqb n i (λ e. omega (arith, l, e))

  above_is : (n : ℕ) → i < n → (n == i) ≡ false
  above_is n l = ne_eqb n i (λ e. omega (arith, l, e))

  -- ---- the place

  above_at : (j k : ℕ) (items : List Input) (d : Input) → AllAbove j (inputs_of items) → k < length items → j < (Input.index (slice_index_or items k d)).0
  above_at j k [] d h few = absurd (omega (arith, few))
  above_at j zero (x ∷ items) d h few = h.0
  above_at j (suc k) (x ∷ items) d h few = above_at j k items d h.1 (omega (arith, few))

  all_below : (k : ℕ) (items : List Input) (d : Input) → IsRising (inputs_of items) → k < length items → (Input.index (slice_index_or items k d)).0 < i → AreBelow i (suc k) items
  all_below k [] d rising few l = absurd (omega (arith, few))
  all_below zero (x ∷ items) d rising few l = (l, tt)
  all_below (suc k) (x ∷ items) d rising few l =
      (omega (arith, above_at x.index.0 k items d rising.0 (omega (arith, few)), l), all_below k items d rising.1 (omega (arith, few)) l)

  -- those up to one that lies below do
  pub below_up_to : (k : ℕ) (items : List Input) (d : Input) → IsRising (inputs_of items) → k < length items → (Input.index (slice_index_or items k d)).0 < i → AreBelow i (k + 1) items
  below_up_to k items d rising few l = let n : suc k ≡ k + 1 = omega arith in subst (λ (m : ℕ). AreBelow i m items) n (all_below k items d rising few l)

  -- those before one that is it do
  pub below_before : (k : ℕ) (items : List Input) → IsRising (inputs_of items) → k < length items → ((d : Input) → (Input.index (slice_index_or items k d)).0 ≡ i) → AreBelow i k items
  below_before zero items rising few e = tt
  below_before (suc k) [] rising few e = absurd (omega (arith, few))
  below_before (suc k) (x ∷ items) rising few e =
      (omega (arith, above_at x.index.0 k items x rising.0 (omega (arith, few)), e x), below_before k items rising.1 (omega (arith, few)) e)

  above_more : (j : ℕ) (xs : List Stands) → i < j → AllAbove j xs → AllAbove i xs
  above_more j [] l h = tt
  above_more j (x ∷ xs) l h = (omega (arith, l, h.0), above_more j xs l h.1)

  pub at_place : (k : ℕ) (items : List Input) (d : Input) → IsRising (inputs_of items) → AreBelow i k items → k < length items → (Input.index (slice_index_or items k d)).0 ≡ i → IsAt i k items
  at_place k [] d rising h few e = absurd (omega (arith, few))
  at_place zero (x ∷ items) d rising h few e = (e, subst (λ (n : ℕ). AllAbove n (inputs_of items)) e rising.0)
  at_place (suc k) (x ∷ items) d rising h few e = (h.0, at_place k items d rising.1 h.1 (omega (arith, few)) e)

  pub gap_before : (k : ℕ) (items : List Input) (d : Input) → IsRising (inputs_of items) → AreBelow i k items → k < length items → i < (Input.index (slice_index_or items k d)).0 → IsGap i k items
  gap_before k [] d rising h few e = absurd (omega (arith, few))
  gap_before zero (x ∷ items) d rising h few e = (e, above_more x.index.0 (inputs_of items) e rising.0)
  gap_before (suc k) (x ∷ items) d rising h few e = (h.0, gap_before k items d rising.1 h.1 (omega (arith, few)) e)

  pub gap_at_end : (k : ℕ) (items : List Input) → AreBelow i k items → length items ≤ k → IsGap i k items
  gap_at_end zero [] h few = tt
  gap_at_end zero (x ∷ items) h few = absurd (omega (arith, few))
  gap_at_end (suc k) [] h few = absurd h
  gap_at_end (suc k) (x ∷ items) h few = (h.0, gap_at_end k items h.1 (omega (arith, few)))

  pub at_few : (k : ℕ) (items : List Input) → IsAt i k items → k < length items
  at_few k [] h = absurd h
  at_few zero (x ∷ items) h = omega arith
  at_few (suc k) (x ∷ items) h = omega (arith, at_few k items h.1)

  pub gap_few : (k : ℕ) (items : List Input) → IsGap i k items → k ≤ length items
  gap_few zero items h = omega arith
  gap_few (suc k) [] h = absurd h
  gap_few (suc k) (x ∷ items) h = omega (arith, gap_few k items h.1)

  -- ---- the stream there

  pub at_stream : (k : ℕ) (items : List Input) (d : Input) → IsAt i k items → stream_at i (inputs_of items) ≡ Some (Input.stream (slice_index_or items k d)).stream
  at_stream k [] d h = absurd h
  at_stream zero (x ∷ items) d h = cond-true (x.index.0 == i) (Some x.stream.stream) (stream_at i (inputs_of items)) (eq-eqb x.index.0 i h.0)
  at_stream (suc k) (x ∷ items) d h = cond-false (x.index.0 == i) (Some x.stream.stream) (stream_at i (inputs_of items)) (below_is x.index.0 h.0) ∙ at_stream k items d h.1

  above_absent : (xs : List Stands) → AllAbove i xs → stream_at i xs ≡ None
  above_absent [] h = refl
  above_absent (x ∷ xs) h = cond-false (x.index == i) (Some x.stream) (stream_at i xs) (above_is x.index h.0) ∙ above_absent xs h.1

  pub gap_stream : (k : ℕ) (items : List Input) → IsGap i k items → stream_at i (inputs_of items) ≡ None
  gap_stream zero items h = above_absent (inputs_of items) h
  gap_stream (suc k) [] h = absurd h
  gap_stream (suc k) (x ∷ items) h = cond-false (x.index.0 == i) (Some x.stream.stream) (stream_at i (inputs_of items)) (below_is x.index.0 h.0) ∙ gap_stream k items h.1

  -- ---- changed

  pub above_change : (f : Stream → Stream) (xs : List Stands) → AllAbove i xs → with_change i f xs ≡ xs
  above_change f [] h = refl
  above_change f (x ∷ xs) h = λ k. cond-false (x.index == i) (with_stream f x) x (above_is x.index h.0) k ∷ above_change f xs h.1 k

  pub at_change : (f : Stream → Stream) (k : ℕ) (items : List Input) (d y : Input) → IsAt i k items → input_of y ≡ with_stream f (input_of (slice_index_or items k d)) → inputs_of (slice_set items k y) ≡ with_change i f (inputs_of items)
  at_change f k [] d y h e = absurd h
  at_change f zero (x ∷ items) d y h e =
      (λ k. e k ∷ inputs_of items)
      ∙ sym (λ k. cond-true (x.index.0 == i) (with_stream f (input_of x)) (input_of x) (eq-eqb x.index.0 i h.0) k ∷ above_change f (inputs_of items) h.1 k)
  at_change f (suc k) (x ∷ items) d y h e =
      (λ j. input_of x ∷ at_change f k items d y h.1 e j)
      ∙ sym (λ j. cond-false (x.index.0 == i) (with_stream f (input_of x)) (input_of x) (below_is x.index.0 h.0) j ∷ with_change i f (inputs_of items))

  pub gap_change : (f : Stream → Stream) (k : ℕ) (items : List Input) → IsGap i k items → inputs_of items ≡ with_change i f (inputs_of items)
  gap_change f zero items h = sym (above_change f (inputs_of items) h)
  gap_change f (suc k) [] h = absurd h
  gap_change f (suc k) (x ∷ items) h =
      (λ j. input_of x ∷ gap_change f k items h.1 j)
      ∙ sym (λ j. cond-false (x.index.0 == i) (with_stream f (input_of x)) (input_of x) (below_is x.index.0 h.0) j ∷ with_change i f (inputs_of items))

  -- ---- left out

  stays : (x : Stands) (xs : List Stands) → (x.index == i) ≡ false → without_input i (x ∷ xs) ≡ x ∷ without_input i xs
  stays x xs e = ap (λ (b : Bool). cond (not b) (x ∷ without_input i xs) (without_input i xs)) e

  above_without : (xs : List Stands) → AllAbove i xs → without_input i xs ≡ xs
  above_without [] h = refl
  above_without (x ∷ xs) h = stays x xs (above_is x.index h.0) ∙ ap (λ (ys : List Stands). x ∷ ys) (above_without xs h.1)

  pub at_without : (k : ℕ) (items : List Input) → IsAt i k items → inputs_of (remove items k) ≡ without_input i (inputs_of items)
  at_without k [] h = absurd h
  at_without zero (x ∷ items) h =
      sym (ap (λ (b : Bool). cond (not b) (input_of x ∷ without_input i (inputs_of items)) (without_input i (inputs_of items))) (eq-eqb x.index.0 i h.0)
      ∙ above_without (inputs_of items) h.1)
  at_without (suc k) (x ∷ items) h =
      ap (λ (ys : List Stands). input_of x ∷ ys) (at_without k items h.1) ∙ sym (stays (input_of x) (inputs_of items) (below_is x.index.0 h.0))

  pub gap_without : (k : ℕ) (items : List Input) → IsGap i k items → inputs_of items ≡ without_input i (inputs_of items)
  gap_without zero items h = sym (above_without (inputs_of items) h)
  gap_without (suc k) [] h = absurd h
  gap_without (suc k) (x ∷ items) h =
      ap (λ (ys : List Stands). input_of x ∷ ys) (gap_without k items h.1) ∙ sym (stays (input_of x) (inputs_of items) (below_is x.index.0 h.0))

  -- ---- put in

  passes : (s : Stream) (x : Stands) (xs : List Stands) → x.index < i → with_input i s (x ∷ xs) ≡ x ∷ with_input i s xs
  passes s x xs l =
      cond-false (nat_lt i x.index) (record { index = i; stream = s } ∷ (x ∷ xs)) (cond (x.index == i) (record { index = i; stream = s } ∷ xs) (x ∷ with_input i s xs)) (le-ltb i x.index (omega (arith, l)))
      ∙ cond-false (x.index == i) (record { index = i; stream = s } ∷ xs) (x ∷ with_input i s xs) (below_is x.index l)

  above_with : (s : Stream) (xs : List Stands) → AllAbove i xs → with_input i s xs ≡ record { index = i; stream = s } ∷ xs
  above_with s [] h = refl
  above_with s (x ∷ xs) h =
      cond-true (nat_lt i x.index) (record { index = i; stream = s } ∷ (x ∷ xs)) (cond (x.index == i) (record { index = i; stream = s } ∷ xs) (x ∷ with_input i s xs)) (lt-ltb i x.index h.0)

  pub at_with : (k : ℕ) (items : List Input) (y : Input) → IsAt i k items → y.index.0 ≡ i → inputs_of (slice_set items k y) ≡ with_input i y.stream.stream (inputs_of items)
  at_with k [] y h e = absurd h
  at_with zero (x ∷ items) y h e =
      (λ j. record { index = e j; stream = y.stream.stream } ∷ inputs_of items)
      ∙ sym (cond-false (nat_lt i x.index.0) (record { index = i; stream = y.stream.stream } ∷ (input_of x ∷ inputs_of items)) (cond (x.index.0 == i) (record { index = i; stream = y.stream.stream } ∷ inputs_of items) (input_of x ∷ with_input i y.stream.stream (inputs_of items))) (le-ltb i x.index.0 (omega (arith, h.0)))
      ∙ cond-true (x.index.0 == i) (record { index = i; stream = y.stream.stream } ∷ inputs_of items) (input_of x ∷ with_input i y.stream.stream (inputs_of items)) (eq-eqb x.index.0 i h.0))
  at_with (suc k) (x ∷ items) y h e =
      ap (λ (ys : List Stands). input_of x ∷ ys) (at_with k items y h.1 e) ∙ sym (passes y.stream.stream (input_of x) (inputs_of items) h.0)

  pub gap_with : (k : ℕ) (items : List Input) (y : Input) → IsGap i k items → y.index.0 ≡ i → inputs_of (insert items k y) ≡ with_input i y.stream.stream (inputs_of items)
  gap_with zero items y h e =
      (λ j. record { index = e j; stream = y.stream.stream } ∷ inputs_of items) ∙ sym (above_with y.stream.stream (inputs_of items) h)
  gap_with (suc k) [] y h e = absurd h
  gap_with (suc k) (x ∷ items) y h e =
      ap (λ (ys : List Stands). input_of x ∷ ys) (gap_with k items y h.1 e) ∙ sym (passes y.stream.stream (input_of x) (inputs_of items) h.0)

-- ---- their room

pub all_less : (r s a b : ℕ) (items : List Input) → s ≤ r → b ≤ a → AllByRecursion (HasRoom r a) items → AllByRecursion (HasRoom s b) items
all_less r s a b [] l m h = tt
all_less r s a b (x ∷ items) l m h = ((omega (arith, l, h.0.0), omega (arith, m, h.0.1)), all_less r s a b items l m h.1)

-- for nothing there is always room
pub all_none : (items : List Input) → AllByRecursion (HasRoom 0 0) items
all_none [] = tt
all_none (x ∷ items) = ((omega arith, omega arith), all_none items)

pub all_at : (r b k : ℕ) (items : List Input) (d : Input) → k < length items → AllByRecursion (HasRoom r b) items → HasRoom r b (slice_index_or items k d)
all_at r b k [] d few h = absurd (omega (arith, few))
all_at r b zero (x ∷ items) d few h = h.0
all_at r b (suc k) (x ∷ items) d few h = all_at r b k items d (omega (arith, few)) h.1

pub all_with : (r b k : ℕ) (items : List Input) (y : Input) → HasRoom r b y → AllByRecursion (HasRoom r b) items → AllByRecursion (HasRoom r b) (slice_set items k y)
all_with r b k [] y l h = tt
all_with r b zero (x ∷ items) y l h = (l, h.1)
all_with r b (suc k) (x ∷ items) y l h = (h.0, all_with r b k items y l h.1)

pub all_insert : (r b k : ℕ) (items : List Input) (y : Input) → HasRoom r b y → AllByRecursion (HasRoom r b) items → AllByRecursion (HasRoom r b) (insert items k y)
all_insert r b zero items y l h = (l, h)
all_insert r b (suc k) [] y l h = (l, tt)
all_insert r b (suc k) (x ∷ items) y l h = (h.0, all_insert r b k items y l h.1)

pub all_remove : (r b k : ℕ) (items : List Input) → AllByRecursion (HasRoom r b) items → AllByRecursion (HasRoom r b) (remove items k)
all_remove r b zero [] h = tt
all_remove r b (suc k) [] h = tt
all_remove r b zero (x ∷ items) h = h.1
all_remove r b (suc k) (x ∷ items) h = (h.0, all_remove r b k items h.1)

pub room_small : (m : StreamMessage) → room_for m ≤ 1
room_small (StreamMessage.attach feed factors) = omega arith
room_small (StreamMessage.write seek offset frames bytes) = omega arith
room_small (StreamMessage.cork on) = omega arith
room_small StreamMessage.flush = omega arith
room_small StreamMessage.trigger = omega arith
room_small StreamMessage.prebuf = omega arith
room_small (StreamMessage.drain tag) = omega arith
room_small (StreamMessage.attr attr) = omega arith
room_small (StreamMessage.factors factors) = omega arith
room_small (StreamMessage.query tag) = omega arith

-- the answer of a stream tells whether there is an Overflow
pub overflow_is : (noticed : Bool) → is_overflow (answer_for noticed) ≡ noticed
overflow_is true = refl
overflow_is false = refl
