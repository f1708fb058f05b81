-- A turn gives no more notices than are reckoned for it.
use Rattle.std.proofs.Common.{◌≡◌, ℕ, zero, suc, ◌+◌, ◌≤◌, List, [], ◌∷◌, ◌++◌, map, length, Bool, true, false, Option, Some, None, refl, ap, ◌∙◌, subst, arith, cond, length-append}
use Rattle.std.specs.Prelude.{flat_map, nat_lt, nat_le, ◌==◌, not, filter}
use Rattle.std.specs.List.{sum_by}
use Rattle.std.proofs.lemmas.List.{length-map}
use Rattle.std.proofs.lemmas.List.Sums.{sum_by-cons}
use Rattle.std.proofs.lemmas.Bool.{cond_both, eqb-true}
use Rattle.px_model.specs.Stream.{Stream}
use Rattle.px_model.specs.Going.{after}
use Rattle.px_model.specs.Control.{new_stream, attached, corked_to, triggered, prebuffered, flushed, drained_by, with_attr, with_factors}
use Rattle.px_model.specs.Message.{Message, InputFactors}
use Rattle.px_model.specs.Notice.{Notice}
use Rattle.px_model.specs.Sink.{Input as Stands, AllAbove, IsRising, stream_at, with_input, with_stream, with_change}
use Rattle.px_model.specs.Write.{Outcome, stored, overflow, outside}
use Rattle.px_model.specs.Applied.{written_by, write_outcome}
use Rattle.px_model.specs.Turn.{going_notices, has_started, has_run_out, has_ended, missing_of, asked_notices, refusal_of, latency_of, notices_from, with_each_factors, inputs_with, inputs_with_all, message_notices, all_message_notices}
use Rattle.px_model.proofs.Streams.{stream_by}
use Rattle.px_lane.specs.Needed.{needed_by_input, needed_by, needed}
use Rattle.px_lane.proofs.Places.{above_change}
use Rattle.px_lane.proofs.Rising.{rising_each, rising_change, rising_without, rising_with}

-- ---- the notices of one input or message

one_of_each : (b c : Bool) (m n : Notice Stream) → length (cond b (m ∷ []) [] ++ cond c (n ∷ []) []) ≤ 2
one_of_each true true m n = omega arith
one_of_each true false m n = omega arith
one_of_each false true m n = omega arith
one_of_each false false m n = omega arith

all_and_one : (b c : Bool) (ms : List (Notice Stream)) (n : Notice Stream) → length (cond b ms [] ++ cond c (n ∷ []) []) ≤ length ms + 1
all_and_one true true ms n = omega (arith, length-append ms (n ∷ []))
all_and_one true false ms n = omega (arith, length-append {A = Notice Stream} ms [])
all_and_one false true ms n = omega arith
all_and_one false false ms n = omega arith

going_few : (k : ℕ) (x : Stands) → length (going_notices k x) ≤ 2
going_few k x = one_of_each (has_started x.stream k) (has_run_out x.stream k) (Notice.started x.index) (Notice.underflow x.index)

asked_few : (mixed : ℕ) (x : Stands) → length (asked_notices mixed x) ≤ length x.stream.draining + 1
asked_few mixed x =
    subst (λ (n : ℕ). length (asked_notices mixed x) ≤ n + 1) (length-map x.stream.draining (λ tag. Notice.drained x.index tag))
    (all_and_one (has_ended x.stream) (nat_le x.stream.minreq (missing_of x.stream mixed)) (map (λ tag. Notice.drained x.index tag) x.stream.draining) (Notice.request x.index (missing_of x.stream mixed)))

refused_few : (i : ℕ) (o : Outcome) → length (refusal_of i o) ≤ 1
refused_few i stored = omega arith
refused_few i overflow = omega arith
refused_few i outside = omega arith

from_few : (o : Option Stream) (f : Stream → List (Notice Stream)) → ((s : Stream) → length (f s) ≤ 1) → length (notices_from o f) ≤ 1
from_few None f h = omega arith
from_few (Some s) f h = h s

message_few : (mixed buffered : ℕ) (m : Message Stream) (xs : List Stands) → length (message_notices mixed buffered m xs) ≤ 1
message_few mixed buffered (Message.new n) xs = omega arith
message_few mixed buffered (Message.attach i parcel feed factors) xs = omega arith
message_few mixed buffered (Message.detach i) xs = from_few (stream_at i xs) (λ s. Notice.detached i s ∷ []) (λ s. omega arith)
message_few mixed buffered (Message.write w) xs = from_few (stream_at w.input xs) (λ s. refusal_of w.input (write_outcome s w.seek w.offset w.frames w.bytes mixed)) (λ s. refused_few w.input (write_outcome s w.seek w.offset w.frames w.bytes mixed))
message_few mixed buffered (Message.cork i on) xs = omega arith
message_few mixed buffered (Message.flush i) xs = omega arith
message_few mixed buffered (Message.trigger i) xs = omega arith
message_few mixed buffered (Message.prebuf i) xs = omega arith
message_few mixed buffered (Message.drain i tag) xs = omega arith
message_few mixed buffered (Message.attr i attr) xs = omega arith
message_few mixed buffered (Message.factors each) xs = omega arith
message_few mixed buffered (Message.query i tag) xs = from_few (stream_at i xs) (λ s. Notice.latency i tag (latency_of mixed buffered s) ∷ []) (λ s. omega arith)

-- ---- what the inputs may give at the end

abbrev left_by : Stands → ℕ
left_by x = 1 + length x.stream.draining

abbrev left : List Stands → ℕ
left xs = sum_by left_by xs

left_more : (x : Stands) (xs : List Stands) → left (x ∷ xs) ≡ left_by x + left xs
left_more x xs = sum_by-cons left_by x xs

left_map : (f : Stands → Stands) → ((x : Stands) → length (Stands.stream (f x)).draining ≡ length x.stream.draining) → (xs : List Stands) → left (map f xs) ≡ left xs
left_map f e [] = refl
left_map f e (x ∷ xs) = left_more (f x) (map f xs) ∙ omega (arith, e x, left_map f e xs, left_more x xs)

left_change : (i : ℕ) (f : Stream → Stream) → ((s : Stream) → length (Stream.draining (f s)) ≡ length s.draining) → (xs : List Stands) → left (with_change i f xs) ≡ left xs
left_change i f e xs =
    left_map (λ x. cond (Stands.index x == i) (with_stream f x) x)
    (λ x. cond_both (x.index == i) (with_stream f x) x (λ y. length (Stands.stream y).draining ≡ length x.stream.draining) (λ h. e x.stream) (λ h. refl)) xs

left_factors : (each : List InputFactors) (xs : List Stands) → left (with_each_factors each xs) ≡ left xs
left_factors [] xs = refl
left_factors (f ∷ each) xs =
    left_factors each (with_change f.input (λ s. with_factors s f.factors) xs) ∙ left_change f.input (λ s. with_factors s f.factors) (λ s. refl) xs

left_without : (p : Stands → Bool) (xs : List Stands) → left (filter p xs) ≤ left xs
left_without p [] = omega arith
left_without p (x ∷ xs) =
    cond_both (p x) (x ∷ filter p xs) (filter p xs) (λ ys. left ys ≤ left (x ∷ xs))
    (λ h. omega (arith, left_more x (filter p xs), left_more x xs, left_without p xs))
    (λ h. omega (arith, left_more x xs, left_without p xs))

left_with : (i : ℕ) (s : Stream) (xs : List Stands) → left (with_input i s xs) ≤ left xs + (1 + length s.draining)
left_with i s [] = omega arith
left_with i s (x ∷ xs) =
    cond_both (nat_lt i x.index) (record { index = i; stream = s } ∷ (x ∷ xs)) (cond (x.index == i) (record { index = i; stream = s } ∷ xs) (x ∷ with_input i s xs)) (λ ys. left ys ≤ left (x ∷ xs) + (1 + length s.draining))
    (λ h. omega (arith, left_more (record { index = i; stream = s }) (x ∷ xs)))
    (λ h. cond_both (x.index == i) (record { index = i; stream = s } ∷ xs) (x ∷ with_input i s xs) (λ ys. left ys ≤ left (x ∷ xs) + (1 + length s.draining))
    (λ f. omega (arith, left_more (record { index = i; stream = s }) xs, left_more x xs))
    (λ f. omega (arith, left_more x (with_input i s xs), left_more x xs, left_with i s xs)))

-- a drain goes to one input alone
left_drained : (i tag : ℕ) (xs : List Stands) → IsRising xs → left (with_change i (λ s. drained_by s tag) xs) ≤ left xs + 1
left_drained i tag [] rising = omega arith
left_drained i tag (x ∷ xs) rising =
    cond_both (x.index == i) (with_stream (λ s. drained_by s tag) x) x (λ y. left (y ∷ with_change i (λ s. drained_by s tag) xs) ≤ left (x ∷ xs) + 1)
    (λ h.
    let rest : left (with_change i (λ s. drained_by s tag) xs) ≡ left xs =
    ap left (above_change i (λ s. drained_by s tag) xs (subst (λ (n : ℕ). AllAbove n xs) (eqb-true x.index i h) rising.0)) in
    omega (arith, left_more (with_stream (λ s. drained_by s tag) x) (with_change i (λ s. drained_by s tag) xs), left_more x xs, rest, length-append x.stream.draining (tag ∷ [])))
    (λ h. omega (arith, left_more x (with_change i (λ s. drained_by s tag) xs), left_more x xs, left_drained i tag xs rising.1))

-- ---- messages

rising_factors : (each : List InputFactors) (xs : List Stands) → IsRising xs → IsRising (with_each_factors each xs)
rising_factors [] xs h = h
rising_factors (f ∷ each) xs h = rising_factors each (with_change f.input (λ s. with_factors s f.factors) xs) (rising_change f.input (λ s. with_factors s f.factors) xs h)

pub rising_message : (mixed : ℕ) (m : Message Stream) (xs : List Stands) → IsRising xs → IsRising (inputs_with mixed m xs)
rising_message mixed (Message.new n) xs h = rising_with n.input (new_stream n.spec n.feed n.factors n.attr n.corked) xs h
rising_message mixed (Message.attach i parcel feed factors) xs h = rising_with i (attached parcel feed factors) xs h
rising_message mixed (Message.detach i) xs h = rising_without i xs h
rising_message mixed (Message.write w) xs h = rising_change w.input (written_by w.seek w.offset w.frames w.bytes mixed) xs h
rising_message mixed (Message.cork i on) xs h = rising_change i (λ s. corked_to s on) xs h
rising_message mixed (Message.flush i) xs h = rising_change i flushed xs h
rising_message mixed (Message.trigger i) xs h = rising_change i triggered xs h
rising_message mixed (Message.prebuf i) xs h = rising_change i prebuffered xs h
rising_message mixed (Message.drain i tag) xs h = rising_change i (λ s. drained_by s tag) xs h
rising_message mixed (Message.attr i attr) xs h = rising_change i (λ s. with_attr s attr) xs h
rising_message mixed (Message.factors each) xs h = rising_factors each xs h
rising_message mixed (Message.query i tag) xs h = h

message_leaves : (mixed : ℕ) (m : Message Stream) (xs : List Stands) → IsRising xs → left (inputs_with mixed m xs) + 1 ≤ left xs + needed_by m
message_leaves mixed (Message.new n) xs h = omega (arith, left_with n.input (new_stream n.spec n.feed n.factors n.attr n.corked) xs)
message_leaves mixed (Message.attach i parcel feed factors) xs h = omega (arith, left_with i (attached parcel feed factors) xs)
message_leaves mixed (Message.detach i) xs h = omega (arith, left_without (λ x. not (Stands.index x == i)) xs)
message_leaves mixed (Message.write w) xs h = omega (arith, left_change w.input (written_by w.seek w.offset w.frames w.bytes mixed) (λ s. refl) xs)
message_leaves mixed (Message.cork i on) xs h = omega (arith, left_change i (λ s. corked_to s on) (λ s. refl) xs)
message_leaves mixed (Message.flush i) xs h = omega (arith, left_change i flushed (λ s. refl) xs)
message_leaves mixed (Message.trigger i) xs h = omega (arith, left_change i triggered (λ s. refl) xs)
message_leaves mixed (Message.prebuf i) xs h = omega (arith, left_change i prebuffered (λ s. refl) xs)
message_leaves mixed (Message.drain i tag) xs h = omega (arith, left_drained i tag xs h)
message_leaves mixed (Message.attr i attr) xs h = omega (arith, left_change i (λ s. with_attr s attr) (λ s. refl) xs)
message_leaves mixed (Message.factors each) xs h = omega (arith, left_factors each xs)
message_leaves mixed (Message.query i tag) xs h = omega arith

messages_leave : (mixed buffered : ℕ) (ms : List (Message Stream)) (xs : List Stands) → IsRising xs
    → length (all_message_notices mixed buffered ms xs) + left (inputs_with_all mixed ms xs) ≤ left xs + sum_by needed_by ms
messages_leave mixed buffered [] xs h = omega arith
messages_leave mixed buffered (m ∷ ms) xs h =
    omega (
      arith,
      length-append (message_notices mixed buffered m xs) (all_message_notices mixed buffered ms (inputs_with mixed m xs)),
      message_few mixed buffered m xs,
      message_leaves mixed m xs h,
      messages_leave mixed buffered ms (inputs_with mixed m xs) (rising_message mixed m xs h),
      sum_by-cons needed_by m ms,
    )

-- ---- the turn

going_all : (k : ℕ) (xs : List Stands) → length (flat_map (going_notices k) xs) + left xs ≤ sum_by needed_by_input xs
going_all k [] = omega arith
going_all k (x ∷ xs) =
    omega (arith, length-append (going_notices k x) (flat_map (going_notices k) xs), going_few k x, left_more x xs, sum_by-cons needed_by_input x xs, going_all k xs)

asked_all : (mixed : ℕ) (xs : List Stands) → length (flat_map (asked_notices mixed) xs) ≤ left xs
asked_all mixed [] = omega arith
asked_all mixed (x ∷ xs) =
    omega (arith, length-append (asked_notices mixed x) (flat_map (asked_notices mixed) xs), asked_few mixed x, left_more x xs, asked_all mixed xs)

after_drains : (k : ℕ) (s : Stream) → length (Stream.draining (after s k)) ≡ length s.draining
after_drains zero s = refl
after_drains (suc k) s = stream_by (λ t. length (Stream.draining t) ≡ length s.draining) s (suc k) (omega arith) (λ c. refl) (λ c. refl)

pub turn_fits : (k mixed buffered asked : ℕ) (ms : List (Message Stream)) (xs : List Stands) → IsRising xs
    → length (flat_map (going_notices k) xs)
    + (length (all_message_notices mixed buffered ms (map (with_stream (λ s. after s k)) xs))
    + length (flat_map (asked_notices asked) (inputs_with_all mixed ms (map (with_stream (λ s. after s k)) xs)))) ≤ needed xs ms
turn_fits k mixed buffered asked ms xs rising =
    let forward : List Stands = map (with_stream (λ s. after s k)) xs in
    omega (
      arith,
      going_all k xs,
      left_map (with_stream (λ s. after s k)) (λ x. after_drains k x.stream) xs,
      messages_leave mixed buffered ms forward (rising_each (λ s. after s k) xs rising),
      asked_all asked (inputs_with_all mixed ms forward),
    )
