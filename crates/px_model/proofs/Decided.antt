-- Every frame in the buffer is what its deciding turn makes it.
use Rattle.std.proofs.Common.{◌≡◌, ℕ, ◌+◌, ◌-◌, ◌<◌, ◌≤◌, List, [], ◌∷◌, length, drop, Option, Some, None, Bool, true, false, refl, ap, sym, subst, ◌∙◌, arith, cond, ⊎_elim, length-take, length-drop, length-append}
use Rattle.std.specs.Prelude.{slice_get, nat_le, option_map, IsSome}
use Rattle.std.specs.Option.{option_or}
use Rattle.std.proofs.lemmas.Bool.{cases_lt, cond-true, cond-false, le-leb, lt-leb, leb-true, leb-false}
use Rattle.std.proofs.lemmas.Option.{none-some, same_Some}
use Rattle.px_model.specs.Frame.{Frame, SampleSpec}
use Rattle.px_model.specs.Stream.{Stream}
use Rattle.px_model.specs.Message.{Message}
use Rattle.px_model.specs.Mix.{Samples, mix_of}
use Rattle.px_model.specs.Sink.{Sink, empty_sink, streams_of}
use Rattle.px_model.specs.Turn.{next_horizon, settled, with_messages, turned, stopped_turn, frame_mixed, played_by}
use Rattle.px_model.specs.Deciding.{Entry, turn, stop, sink_after, replay, played_of, replay_played, CanBe, IsHistory, deciding, decided, ArePast, IsLastReaching}
use Rattle.px_model.proofs.Places.{get-take, got_elem, get_left, get_right}
use Rattle.px_model.proofs.Rounds.{get_stays, get_fresh, length-mixed}

-- a buffer from consumed to filled, whose frames are those of a function
record IsBuffer (sink : Sink) (frames : ℕ → Option Frame) : Type 0 where
  first : sink.consumed ≤ sink.filled
  bounded : sink.filled ≤ sink.consumed + sink.depth
  full : length sink.buffer ≡ sink.filled - sink.consumed
  each : (k : ℕ) → k < sink.filled - sink.consumed → slice_get sink.buffer k ≡ frames (sink.consumed + k)

-- what a turn decides, and below its horizon what was decided before
abbrev redecided : Samples → Sink → (ℕ → Option Frame) → ℕ → Option Frame
redecided samples sink before f = cond (nat_le sink.horizon f) (Some (frame_mixed samples f sink)) (before f)

redecided_from : (samples : Samples) (sink : Sink) (before : ℕ → Option Frame) (f : ℕ) → sink.horizon ≤ f → redecided samples sink before f ≡ Some (frame_mixed samples f sink)
redecided_from samples sink before f h = cond-true (nat_le sink.horizon f) (Some (frame_mixed samples f sink)) (before f) (le-leb sink.horizon f h)

redecided_below : (samples : Samples) (sink : Sink) (before : ℕ → Option Frame) (f : ℕ) → f < sink.horizon → redecided samples sink before f ≡ before f
redecided_below samples sink before f h = cond-false (nat_le sink.horizon f) (Some (frame_mixed samples f sink)) (before f) (lt-leb sink.horizon f h)

turn_buffer : (samples : Samples) (sink : Sink) (before : ℕ → Option Frame) → IsBuffer sink before → (n : ℕ) (messages : List (Message Stream)) → n ≤ sink.filled - sink.consumed
    → IsBuffer (turned samples sink n messages) (redecided samples (turned samples sink n messages) before)
turn_buffer samples sink before b n messages h = record {
  first = omega arith;
  bounded = omega arith;
  full = length-mixed samples sink (next_horizon sink n - (sink.consumed + n)) (sink.consumed + n + sink.depth - next_horizon sink n) (drop n sink.buffer) (with_messages (settled sink n) messages).inputs
      ∙ omega (arith, length-drop n sink.buffer, b.full, b.first, b.bounded);
  each = λ k l. ⊎_elim
      (λ (low : k < next_horizon sink n - (sink.consumed + n)).
      let whole : sink.consumed + (n + k) ≡ sink.consumed + n + k = omega arith in
      get_stays samples sink n messages k b.first b.full low
      ∙ b.each (n + k) (omega (arith, b.first))
      ∙ ap before whole
      ∙ sym (redecided_below samples (turned samples sink n messages) before (sink.consumed + n + k) (omega (arith, b.first))))
      (λ (high : next_horizon sink n - (sink.consumed + n) ≤ k).
      let whole : k - (next_horizon sink n - (sink.consumed + n)) ≡ sink.consumed + n + k - next_horizon sink n = omega (arith, b.first) in
      get_fresh samples sink n messages k (k - (next_horizon sink n - (sink.consumed + n))) h b.first b.full (omega arith) (omega (arith, b.first, b.bounded))
      ∙ ap (λ j. Some (mix_of samples sink.spec (streams_of (turned samples sink n messages).inputs) j)) whole
      ∙ sym (redecided_from samples (turned samples sink n messages) before (sink.consumed + n + k) (omega (arith, b.first))))
      (cases_lt k (next_horizon sink n - (sink.consumed + n)));
}

stop_buffer : (samples : Samples) (sink : Sink) (before : ℕ → Option Frame) → IsBuffer sink before → (messages : List (Message Stream)) → IsBuffer (stopped_turn sink messages) (redecided samples (stopped_turn sink messages) before)
stop_buffer samples sink before b messages = record {
  first = omega (arith, b.first);
  bounded = omega (arith, b.first, b.bounded);
  full = length-take (next_horizon sink 0 - sink.consumed) sink.buffer ∙ omega (arith, b.full, b.first);
  each = λ k l.
      let whole : sink.consumed + k ≡ sink.consumed + 0 + k = omega arith in
      get-take (next_horizon sink 0 - sink.consumed) sink.buffer k (omega arith)
      ∙ b.each k (omega (arith, b.first))
      ∙ ap before whole
      ∙ sym (redecided_below samples (stopped_turn sink messages) before (sink.consumed + 0 + k) (omega arith));
}

entry_buffer : (samples : Samples) (sink : Sink) (before : ℕ → Option Frame) → IsBuffer sink before → (e : Entry) → CanBe sink e → IsBuffer (sink_after samples sink e) (redecided samples (sink_after samples sink e) before)
entry_buffer samples sink before b (turn n messages) c = turn_buffer samples sink before b n messages c.0
entry_buffer samples sink before b (stop messages) c = stop_buffer samples sink before b messages

-- ---- over a history, with what was decided before it

abbrev decided_past : Samples → Sink → List Entry → (ℕ → Option Frame) → ℕ → Option Frame
decided_past samples sink history before f = option_or (decided samples sink history f) (before f)

past_joins : (g : Sink → Frame) (o : Option Sink) (b : Bool) (sink : Sink) (x : Option Frame) → option_or (option_map g o) (cond b (Some (g sink)) x) ≡ option_or (option_map g (option_or o (cond b (Some sink) None))) x
past_joins g None true sink x = refl
past_joins g None false sink x = refl
past_joins g (Some t) b sink x = refl

same_buffer : (sink : Sink) (f g : ℕ → Option Frame) → ((k : ℕ) → f k ≡ g k) → IsBuffer sink f → IsBuffer sink g
same_buffer sink f g e b = record { first = b.first; bounded = b.bounded; full = b.full; each = λ k l. b.each k l ∙ e (sink.consumed + k) }

history_buffer : (samples : Samples) (sink : Sink) (before : ℕ → Option Frame) (history : List Entry) → IsBuffer sink before → IsHistory samples sink history → IsBuffer (replay samples sink history) (decided_past samples sink history before)
history_buffer samples sink before [] b h = b
history_buffer samples sink before (e ∷ history) b h =
    same_buffer (replay samples (sink_after samples sink e) history)
    (decided_past samples (sink_after samples sink e) history (redecided samples (sink_after samples sink e) before))
    (decided_past samples sink (e ∷ history) before)
    (λ f. past_joins (frame_mixed samples f) (deciding samples (sink_after samples sink e) history f) (nat_le (sink_after samples sink e).horizon f) (sink_after samples sink e) (before f))
    (history_buffer samples (sink_after samples sink e) (redecided samples (sink_after samples sink e) before) history (entry_buffer samples sink before b e h.0) h.1)

nothing_past : (o : Option Frame) → option_or o None ≡ o
nothing_past None = refl
nothing_past (Some x) = refl

from_nothing : (samples : Samples) (spec : SampleSpec) (guard depth : ℕ) (history : List Entry) → IsHistory samples (empty_sink spec guard depth) history
    → IsBuffer (replay samples (empty_sink spec guard depth) history) (decided samples (empty_sink spec guard depth) history)
from_nothing samples spec guard depth history h =
    same_buffer (replay samples (empty_sink spec guard depth) history) (decided_past samples (empty_sink spec guard depth) history (λ f. None)) (decided samples (empty_sink spec guard depth) history)
    (λ f. nothing_past (decided samples (empty_sink spec guard depth) history f))
    (history_buffer samples (empty_sink spec guard depth) (λ f. None) history
    (record { first = omega arith; bounded = omega arith; full = refl; each = λ k l. absurd (omega arith) }) h)

pub played_are_decided : (samples : Samples) (spec : SampleSpec) (guard depth : ℕ) (history : List Entry) → IsHistory samples (empty_sink spec guard depth) history
    → (n : ℕ) → n ≤ (replay samples (empty_sink spec guard depth) history).filled - (replay samples (empty_sink spec guard depth) history).consumed → (j : ℕ) → j < n
    → slice_get (played_by (replay samples (empty_sink spec guard depth) history) n) j ≡ decided samples (empty_sink spec guard depth) history ((replay samples (empty_sink spec guard depth) history).consumed + j)
played_are_decided samples spec guard depth history h n l j k =
    let b : IsBuffer (replay samples (empty_sink spec guard depth) history) (decided samples (empty_sink spec guard depth) history) = from_nothing samples spec guard depth history h in
    get-take n (replay samples (empty_sink spec guard depth) history).buffer j k ∙ b.each j (omega arith)

-- ---- it has a deciding turn, which is the last whose horizon it has reached

some_mapped : (g : Sink → Frame) (o : Option Sink) → IsSome (option_map g o) → IsSome o
some_mapped g None h = h
some_mapped g (Some t) h = refl

none_past : (samples : Samples) (sink : Sink) (history : List Entry) (f : ℕ) → deciding samples sink history f ≡ None → ArePast samples sink history f
none_past samples sink [] f h = tt
none_past samples sink (e ∷ history) f h =
    go (deciding samples (sink_after samples sink e) history f) refl (nat_le (sink_after samples sink e).horizon f) refl h (none_past samples (sink_after samples sink e) history f)
  where
    go : (o : Option Sink) → deciding samples (sink_after samples sink e) history f ≡ o → (b : Bool) → nat_le (sink_after samples sink e).horizon f ≡ b
        → option_or o (cond b (Some (sink_after samples sink e)) None) ≡ None
        → (deciding samples (sink_after samples sink e) history f ≡ None → ArePast samples (sink_after samples sink e) history f) → ArePast samples sink (e ∷ history) f
    go (Some t) p b q x rest = absurd (none-some t (sym x))
    go None p true q x rest = absurd (none-some (sink_after samples sink e) (sym x))
    go None p false q x rest = (leb-false (sink_after samples sink e).horizon f q, rest p)

pub last_reaching : (samples : Samples) (start : Sink) (history : List Entry) (f : ℕ) (sink : Sink) → deciding samples start history f ≡ Some sink → IsLastReaching samples start history f sink
last_reaching samples start [] f sink h = absurd (none-some sink h)
last_reaching samples start (e ∷ history) f sink h =
    go (deciding samples (sink_after samples start e) history f) refl (nat_le (sink_after samples start e).horizon f) refl h (last_reaching samples (sink_after samples start e) history f sink)
  where
    go : (o : Option Sink) → deciding samples (sink_after samples start e) history f ≡ o → (b : Bool) → nat_le (sink_after samples start e).horizon f ≡ b
        → option_or o (cond b (Some (sink_after samples start e)) None) ≡ Some sink
        → (deciding samples (sink_after samples start e) history f ≡ Some sink → IsLastReaching samples (sink_after samples start e) history f sink) → IsLastReaching samples start (e ∷ history) f sink
    go (Some t) p b q x rest =
        let r : IsLastReaching samples (sink_after samples start e) history f sink = rest (p ∙ x) in
        record { earlier = e ∷ r.earlier; entry = r.entry; later = r.later; whole = ap (λ l. e ∷ l) r.whole; left = r.left; reached = r.reached; passed = r.passed }
    go None p true q x rest =
        let same : sink_after samples start e ≡ sink = same_Some (sink_after samples start e) sink x in
        record {
          earlier = [];
          entry = e;
          later = history;
          whole = refl;
          left = sym same;
          reached = subst (λ t. Sink.horizon t ≤ f) same (leb-true (sink_after samples start e).horizon f q);
          passed = subst (λ t. ArePast samples t history f) same (none_past samples (sink_after samples start e) history f p);
        }
    go None p false q x rest = absurd (none-some sink x)

-- ---- the whole run

-- a turn's horizon lies at or past what was consumed
entry_forward : (samples : Samples) (sink : Sink) (e : Entry) → sink.consumed ≤ sink.filled → CanBe sink e → (sink.consumed ≤ (sink_after samples sink e).consumed) × ((sink_after samples sink e).consumed ≤ (sink_after samples sink e).horizon)
entry_forward samples sink (turn n messages) first c = (omega arith, omega (arith, c.0))
entry_forward samples sink (stop messages) first c = (omega arith, omega arith)

-- a frame that was consumed is decided no more
past_decided : (samples : Samples) (sink : Sink) (before : ℕ → Option Frame) (history : List Entry) (f : ℕ) → IsBuffer sink before → IsHistory samples sink history → f < sink.consumed → deciding samples sink history f ≡ None
past_decided samples sink before [] f b h l = refl
past_decided samples sink before (e ∷ history) f b h l =
    let next : IsBuffer (sink_after samples sink e) (redecided samples (sink_after samples sink e) before) = entry_buffer samples sink before b e h.0 in
    let forward = entry_forward samples sink e b.first h.0 in
    (λ i. option_or (past_decided samples (sink_after samples sink e) (redecided samples (sink_after samples sink e) before) history f next h.1 (omega (arith, l, forward.0)) i)
    (cond (lt-leb (sink_after samples sink e).horizon f (omega (arith, l, forward.0, forward.1)) i) (Some (sink_after samples sink e)) None))

-- the frames that an entry plays are those that it consumes
entry_played : (samples : Samples) (sink : Sink) (before : ℕ → Option Frame) → IsBuffer sink before → (e : Entry) → CanBe sink e → (sink_after samples sink e).consumed ≡ sink.consumed + length (played_of sink e)
entry_played samples sink before b (turn n messages) c = omega (arith, length-take n sink.buffer, b.full, c.0)
entry_played samples sink before b (stop messages) c = omega arith

entry_plays : (samples : Samples) (sink : Sink) (before : ℕ → Option Frame) → IsBuffer sink before → (e : Entry) → CanBe sink e → (k : ℕ) → k < length (played_of sink e) → slice_get (played_of sink e) k ≡ before (sink.consumed + k)
entry_plays samples sink before b (turn n messages) c k l =
    get-take n sink.buffer k (omega (arith, l, length-take n sink.buffer)) ∙ b.each k (omega (arith, l, length-take n sink.buffer, b.full))
entry_plays samples sink before b (stop messages) c k l = absurd (omega (arith, l))

-- every frame of a run is what the run decides, and before it what was decided before
run_plays : (samples : Samples) (sink : Sink) (before : ℕ → Option Frame) (history : List Entry) → IsBuffer sink before → IsHistory samples sink history
    → (k : ℕ) → k < length (replay_played samples sink history) → slice_get (replay_played samples sink history) k ≡ decided_past samples sink history before (sink.consumed + k)
run_plays samples sink before [] b h k l = absurd (omega (arith, l))
run_plays samples sink before (e ∷ history) b h k l =
    let next : IsBuffer (sink_after samples sink e) (redecided samples (sink_after samples sink e) before) = entry_buffer samples sink before b e h.0 in
    let forward = entry_forward samples sink e b.first h.0 in
    let played = entry_played samples sink before b e h.0 in
    ⊎_elim
    (λ (now : k < length (played_of sink e)).
    get_left (played_of sink e) (replay_played samples (sink_after samples sink e) history) k now
    ∙ entry_plays samples sink before b e h.0 k now
    ∙ (λ i. option_or
    (option_map (frame_mixed samples (sink.consumed + k))
    (option_or (sym (past_decided samples (sink_after samples sink e) (redecided samples (sink_after samples sink e) before) history (sink.consumed + k) next h.1 (omega (arith, played, now))) i)
    (cond (sym (lt-leb (sink_after samples sink e).horizon (sink.consumed + k) (omega (arith, played, now, forward.1))) i) (Some (sink_after samples sink e)) None)))
    (before (sink.consumed + k))))
    (λ (later : length (played_of sink e) ≤ k).
    let rest : ℕ = k - length (played_of sink e) in
    let whole : (sink_after samples sink e).consumed + rest ≡ sink.consumed + k = omega (arith, played, later) in
    get_right (played_of sink e) (replay_played samples (sink_after samples sink e) history) rest k (omega (arith, later))
    ∙ run_plays samples (sink_after samples sink e) (redecided samples (sink_after samples sink e) before) history next h.1 rest
    (omega (arith, l, later, length-append (played_of sink e) (replay_played samples (sink_after samples sink e) history)))
    ∙ past_joins (frame_mixed samples ((sink_after samples sink e).consumed + rest)) (deciding samples (sink_after samples sink e) history ((sink_after samples sink e).consumed + rest))
    (nat_le (sink_after samples sink e).horizon ((sink_after samples sink e).consumed + rest)) (sink_after samples sink e) (before ((sink_after samples sink e).consumed + rest))
    ∙ ap (decided_past samples sink (e ∷ history) before) whole)
    (cases_lt k (length (played_of sink e)))

run_length : (samples : Samples) (sink : Sink) (before : ℕ → Option Frame) (history : List Entry) → IsBuffer sink before → IsHistory samples sink history → (replay samples sink history).consumed ≡ sink.consumed + length (replay_played samples sink history)
run_length samples sink before [] b h = omega arith
run_length samples sink before (e ∷ history) b h =
    let next : IsBuffer (sink_after samples sink e) (redecided samples (sink_after samples sink e) before) = entry_buffer samples sink before b e h.0 in
    omega (
      arith,
      run_length samples (sink_after samples sink e) (redecided samples (sink_after samples sink e) before) history next h.1,
      entry_played samples sink before b e h.0,
      length-append (played_of sink e) (replay_played samples (sink_after samples sink e) history),
    )

empty_buffer : (spec : SampleSpec) (guard depth : ℕ) → IsBuffer (empty_sink spec guard depth) (λ f. None)
empty_buffer spec guard depth = record { first = omega arith; bounded = omega arith; full = refl; each = λ k l. absurd (omega arith) }

pub run_is_consumed : (samples : Samples) (spec : SampleSpec) (guard depth : ℕ) (history : List Entry) → IsHistory samples (empty_sink spec guard depth) history
    → length (replay_played samples (empty_sink spec guard depth) history) ≡ (replay samples (empty_sink spec guard depth) history).consumed
run_is_consumed samples spec guard depth history h = omega (arith, run_length samples (empty_sink spec guard depth) (λ f. None) history (empty_buffer spec guard depth) h)

pub run_is_decided : (samples : Samples) (spec : SampleSpec) (guard depth : ℕ) (history : List Entry) → IsHistory samples (empty_sink spec guard depth) history
    → (f : ℕ) → f < (replay samples (empty_sink spec guard depth) history).consumed → slice_get (replay_played samples (empty_sink spec guard depth) history) f ≡ decided samples (empty_sink spec guard depth) history f
run_is_decided samples spec guard depth history h f l =
    let start : Sink = empty_sink spec guard depth in
    run_plays samples start (λ f. None) history (empty_buffer spec guard depth) h f (omega (arith, l, run_is_consumed samples spec guard depth history h))
    ∙ nothing_past (decided samples start history (0 + f))
    ∙ ap (decided samples start history) (plus_none f)
  where
    plus_none : (n : ℕ) → 0 + n ≡ n
    plus_none n = omega arith

pub run_has_one : (samples : Samples) (spec : SampleSpec) (guard depth : ℕ) (history : List Entry) → IsHistory samples (empty_sink spec guard depth) history
    → (f : ℕ) → f < (replay samples (empty_sink spec guard depth) history).consumed → IsSome (deciding samples (empty_sink spec guard depth) history f)
run_has_one samples spec guard depth history h f l =
    let start : Sink = empty_sink spec guard depth in
    some_mapped (frame_mixed samples f) (deciding samples start history f)
    (subst (λ o. IsSome o) (run_is_decided samples spec guard depth history h f l) (got_elem (replay_played samples start history) f (omega (arith, l, run_is_consumed samples spec guard depth history h))))
