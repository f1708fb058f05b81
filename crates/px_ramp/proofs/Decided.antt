-- Every frame in the buffer of a ramped sink is what its deciding turn makes it.
use Rattle.std.proofs.Common.{◌≡◌, ℕ, ◌+◌, ◌-◌, ◌<◌, ◌≤◌, List, [], ◌∷◌, length, map, take, drop, Option, Some, None, Bool, true, false, refl, ap, sym, subst, ◌∙◌, arith, cond, ⊎_elim, length-take, length-drop, length-append}
use Rattle.std.specs.Prelude.{slice_get, nat_le, option_map, IsSome}
use Rattle.std.specs.Option.{option_or}
use Rattle.std.specs.List.{range_with_len}
use Rattle.std.proofs.lemmas.List.FromFn.{length-map-range_with_len}
use Rattle.std.proofs.lemmas.Bool.{cases_lt, cond-true, cond-false, le-leb, lt-leb, leb-true, leb-false}
use Rattle.std.proofs.lemmas.Option.{none-some, same_Some}
use Rattle.px_model.specs.Frame.{Frame, SampleSpec}
use Rattle.px_model.specs.Stream.{Stream}
use Rattle.px_model.specs.Message.{Message}
use Rattle.px_model.specs.Mix.{Samples}
use Rattle.px_model.specs.Turn.{next_horizon, turned, played_by}
use Rattle.px_model.specs.Deciding.{Entry, turn, stop, played_of, CanBe}
use Rattle.px_model.proofs.Places.{get-take, get-drop, get-range, got_elem, get_left, get_right}
use Rattle.px_ramp.specs.RampMix.{RampSink, empty_ramp_sink, ramp_mixed, ramp_turned, ramp_stopped}
use Rattle.px_ramp.specs.Deciding.{ramp_after, ramp_replay, ramp_played, IsRampHistory, frame_ramped, ramp_deciding, ramp_decided, RampsPast, IsLastRamp}

-- a buffer from consumed to filled, whose frames are those of a function
record IsBuffer (rs : RampSink) (frames : ℕ → Option Frame) : Type 0 where
  first : rs.sink.consumed ≤ rs.sink.filled
  bounded : rs.sink.filled ≤ rs.sink.consumed + rs.sink.depth
  full : length rs.sink.buffer ≡ rs.sink.filled - rs.sink.consumed
  each : (k : ℕ) → k < rs.sink.filled - rs.sink.consumed → slice_get rs.sink.buffer k ≡ frames (rs.sink.consumed + k)

-- what a turn decides, and below its horizon what was decided before
abbrev redecided : Samples → ℕ → RampSink → (ℕ → Option Frame) → ℕ → Option Frame
redecided samples r rs before f = cond (nat_le rs.sink.horizon f) (Some (frame_ramped samples r f rs)) (before f)

redecided_from : (samples : Samples) (r : ℕ) (rs : RampSink) (before : ℕ → Option Frame) (f : ℕ) → rs.sink.horizon ≤ f → redecided samples r rs before f ≡ Some (frame_ramped samples r f rs)
redecided_from samples r rs before f h = cond-true (nat_le rs.sink.horizon f) (Some (frame_ramped samples r f rs)) (before f) (le-leb rs.sink.horizon f h)

redecided_below : (samples : Samples) (r : ℕ) (rs : RampSink) (before : ℕ → Option Frame) (f : ℕ) → f < rs.sink.horizon → redecided samples r rs before f ≡ before f
redecided_below samples r rs before f h = cond-false (nat_le rs.sink.horizon f) (Some (frame_ramped samples r f rs)) (before f) (lt-leb rs.sink.horizon f h)

-- a turn over n frames of a buffer: what it keeps, and what it mixes
module _ (samples : Samples) (r : ℕ) (rs : RampSink) (n : ℕ) (messages : List (Message Stream)) where
  abbrev below : ℕ
  below = next_horizon rs.sink n - (rs.sink.consumed + n)

  abbrev more : ℕ
  more = rs.sink.consumed + n + rs.sink.depth - next_horizon rs.sink n

  abbrev mixed : ℕ → Frame
  mixed k = ramp_mixed samples r (ramp_turned samples r rs n messages).ramps (turned samples rs.sink n messages) k

  turn_buffer : (before : ℕ → Option Frame) → IsBuffer rs before → n ≤ rs.sink.filled - rs.sink.consumed
      → IsBuffer (ramp_turned samples r rs n messages) (redecided samples r (ramp_turned samples r rs n messages) before)
  turn_buffer before b h = record {
    first = omega arith;
    bounded = omega arith;
    full = length-append (take below (drop n rs.sink.buffer)) (map mixed (range_with_len 0 more))
        ∙ omega (arith, length-take below (drop n rs.sink.buffer), length-map-range_with_len mixed 0 more, length-drop n rs.sink.buffer, b.full, b.first, b.bounded);
    each = λ k l. ⊎_elim
        (λ (low : k < next_horizon rs.sink n - (rs.sink.consumed + n)).
        let whole : rs.sink.consumed + (n + k) ≡ rs.sink.consumed + n + k = omega arith in
        get_left (take below (drop n rs.sink.buffer)) (map mixed (range_with_len 0 more)) k (omega (arith, length-take below (drop n rs.sink.buffer), length-drop n rs.sink.buffer, b.full, b.first, low))
        ∙ get-take below (drop n rs.sink.buffer) k low
        ∙ get-drop n rs.sink.buffer k (n + k) refl
        ∙ b.each (n + k) (omega (arith, b.first, low))
        ∙ ap before whole
        ∙ sym (redecided_below samples r (ramp_turned samples r rs n messages) before (rs.sink.consumed + n + k) (omega (arith, b.first, low))))
        (λ (high : next_horizon rs.sink n - (rs.sink.consumed + n) ≤ k).
        let whole : k - (next_horizon rs.sink n - (rs.sink.consumed + n)) ≡ rs.sink.consumed + n + k - next_horizon rs.sink n = omega (arith, b.first, high) in
        get_right (take below (drop n rs.sink.buffer)) (map mixed (range_with_len 0 more)) (k - below) k (omega (arith, length-take below (drop n rs.sink.buffer), length-drop n rs.sink.buffer, b.full, b.first, b.bounded, h, high))
        ∙ get-range mixed 0 more (k - below) (k - below) (omega (arith, b.first, b.bounded, l, high)) (omega arith)
        ∙ ap (λ (j : ℕ). Some (mixed j)) whole
        ∙ sym (redecided_from samples r (ramp_turned samples r rs n messages) before (rs.sink.consumed + n + k) (omega (arith, b.first, high))))
        (cases_lt k (next_horizon rs.sink n - (rs.sink.consumed + n)));
  }

stop_buffer : (samples : Samples) (r : ℕ) (rs : RampSink) (before : ℕ → Option Frame) → IsBuffer rs before → (messages : List (Message Stream)) → IsBuffer (ramp_stopped r rs messages) (redecided samples r (ramp_stopped r rs messages) before)
stop_buffer samples r rs before b messages = record {
  first = omega (arith, b.first);
  bounded = omega (arith, b.first, b.bounded);
  full = length-take (next_horizon rs.sink 0 - rs.sink.consumed) rs.sink.buffer ∙ omega (arith, b.full, b.first);
  each = λ k l.
      let whole : rs.sink.consumed + k ≡ rs.sink.consumed + 0 + k = omega arith in
      get-take (next_horizon rs.sink 0 - rs.sink.consumed) rs.sink.buffer k (omega arith)
      ∙ b.each k (omega (arith, b.first))
      ∙ ap before whole
      ∙ sym (redecided_below samples r (ramp_stopped r rs messages) before (rs.sink.consumed + 0 + k) (omega arith));
}

entry_buffer : (samples : Samples) (r : ℕ) (rs : RampSink) (before : ℕ → Option Frame) → IsBuffer rs before → (e : Entry) → CanBe rs.sink e → IsBuffer (ramp_after samples r rs e) (redecided samples r (ramp_after samples r rs e) before)
entry_buffer samples r rs before b (turn n messages) c = turn_buffer samples r rs n messages before b c.0
entry_buffer samples r rs before b (stop messages) c = stop_buffer samples r rs before b messages

-- ---- over a history, with what was decided before it

abbrev decided_past : Samples → ℕ → RampSink → List Entry → (ℕ → Option Frame) → ℕ → Option Frame
decided_past samples r rs history before f = option_or (ramp_decided samples r rs history f) (before f)

past_joins : (g : RampSink → Frame) (o : Option RampSink) (b : Bool) (rs : RampSink) (x : Option Frame) → option_or (option_map g o) (cond b (Some (g rs)) x) ≡ option_or (option_map g (option_or o (cond b (Some rs) None))) x
past_joins g None true rs x = refl
past_joins g None false rs x = refl
past_joins g (Some t) b rs x = refl

same_buffer : (rs : RampSink) (f g : ℕ → Option Frame) → ((k : ℕ) → f k ≡ g k) → IsBuffer rs f → IsBuffer rs g
same_buffer rs f g e b = record { first = b.first; bounded = b.bounded; full = b.full; each = λ k l. b.each k l ∙ e (rs.sink.consumed + k) }

history_buffer : (samples : Samples) (r : ℕ) (rs : RampSink) (before : ℕ → Option Frame) (history : List Entry) → IsBuffer rs before → IsRampHistory samples r rs history → IsBuffer (ramp_replay samples r rs history) (decided_past samples r rs history before)
history_buffer samples r rs before [] b h = b
history_buffer samples r rs before (e ∷ history) b h =
    same_buffer (ramp_replay samples r (ramp_after samples r rs e) history)
    (decided_past samples r (ramp_after samples r rs e) history (redecided samples r (ramp_after samples r rs e) before))
    (decided_past samples r rs (e ∷ history) before)
    (λ f. past_joins (frame_ramped samples r f) (ramp_deciding samples r (ramp_after samples r rs e) history f) (nat_le (ramp_after samples r rs e).sink.horizon f) (ramp_after samples r rs e) (before f))
    (history_buffer samples r (ramp_after samples r rs e) (redecided samples r (ramp_after samples r rs e) before) history (entry_buffer samples r rs before b e h.0) h.1)

nothing_past : (o : Option Frame) → option_or o None ≡ o
nothing_past None = refl
nothing_past (Some x) = refl

from_nothing : (samples : Samples) (r : ℕ) (spec : SampleSpec) (guard depth : ℕ) (history : List Entry) → IsRampHistory samples r (empty_ramp_sink spec guard depth) history
    → IsBuffer (ramp_replay samples r (empty_ramp_sink spec guard depth) history) (ramp_decided samples r (empty_ramp_sink spec guard depth) history)
from_nothing samples r spec guard depth history h =
    same_buffer (ramp_replay samples r (empty_ramp_sink spec guard depth) history) (decided_past samples r (empty_ramp_sink spec guard depth) history (λ f. None)) (ramp_decided samples r (empty_ramp_sink spec guard depth) history)
    (λ f. nothing_past (ramp_decided samples r (empty_ramp_sink spec guard depth) history f))
    (history_buffer samples r (empty_ramp_sink spec guard depth) (λ f. None) history
    (record { first = omega arith; bounded = omega arith; full = refl; each = λ k l. absurd (omega arith) }) h)

pub played_are_decided : (samples : Samples) (r : ℕ) (spec : SampleSpec) (guard depth : ℕ) (history : List Entry) → IsRampHistory samples r (empty_ramp_sink spec guard depth) history
    → (n : ℕ) → n ≤ (ramp_replay samples r (empty_ramp_sink spec guard depth) history).sink.filled - (ramp_replay samples r (empty_ramp_sink spec guard depth) history).sink.consumed → (j : ℕ) → j < n
    → slice_get (played_by (ramp_replay samples r (empty_ramp_sink spec guard depth) history).sink n) j ≡ ramp_decided samples r (empty_ramp_sink spec guard depth) history ((ramp_replay samples r (empty_ramp_sink spec guard depth) history).sink.consumed + j)
played_are_decided samples r spec guard depth history h n l j k =
    let b : IsBuffer (ramp_replay samples r (empty_ramp_sink spec guard depth) history) (ramp_decided samples r (empty_ramp_sink spec guard depth) history) = from_nothing samples r spec guard depth history h in
    get-take n (ramp_replay samples r (empty_ramp_sink spec guard depth) history).sink.buffer j k ∙ b.each j (omega arith)

-- ---- it has a deciding turn, which is the last whose horizon it has reached

some_mapped : (g : RampSink → Frame) (o : Option RampSink) → IsSome (option_map g o) → IsSome o
some_mapped g None h = h
some_mapped g (Some t) h = refl

none_past : (samples : Samples) (r : ℕ) (rs : RampSink) (history : List Entry) (f : ℕ) → ramp_deciding samples r rs history f ≡ None → RampsPast samples r rs history f
none_past samples r rs [] f h = tt
none_past samples r rs (e ∷ history) f h =
    go (ramp_deciding samples r (ramp_after samples r rs e) history f) refl (nat_le (ramp_after samples r rs e).sink.horizon f) refl h (none_past samples r (ramp_after samples r rs e) history f)
  where
    go : (o : Option RampSink) → ramp_deciding samples r (ramp_after samples r rs e) history f ≡ o → (b : Bool) → nat_le (ramp_after samples r rs e).sink.horizon f ≡ b
        → option_or o (cond b (Some (ramp_after samples r rs e)) None) ≡ None
        → (ramp_deciding samples r (ramp_after samples r rs e) history f ≡ None → RampsPast samples r (ramp_after samples r rs e) history f) → RampsPast samples r rs (e ∷ history) f
    go (Some t) p b q x rest = absurd (none-some t (sym x))
    go None p true q x rest = absurd (none-some (ramp_after samples r rs e) (sym x))
    go None p false q x rest = (leb-false (ramp_after samples r rs e).sink.horizon f q, rest p)

pub last_reaching : (samples : Samples) (r : ℕ) (start : RampSink) (history : List Entry) (f : ℕ) (rs : RampSink) → ramp_deciding samples r start history f ≡ Some rs → IsLastRamp samples r start history f rs
last_reaching samples r start [] f rs h = absurd (none-some rs h)
last_reaching samples r start (e ∷ history) f rs h =
    go (ramp_deciding samples r (ramp_after samples r start e) history f) refl (nat_le (ramp_after samples r start e).sink.horizon f) refl h (last_reaching samples r (ramp_after samples r start e) history f rs)
  where
    go : (o : Option RampSink) → ramp_deciding samples r (ramp_after samples r start e) history f ≡ o → (b : Bool) → nat_le (ramp_after samples r start e).sink.horizon f ≡ b
        → option_or o (cond b (Some (ramp_after samples r start e)) None) ≡ Some rs
        → (ramp_deciding samples r (ramp_after samples r start e) history f ≡ Some rs → IsLastRamp samples r (ramp_after samples r start e) history f rs) → IsLastRamp samples r start (e ∷ history) f rs
    go (Some t) p b q x rest =
        let r : IsLastRamp samples r (ramp_after samples r start e) history f rs = rest (p ∙ x) in
        record { earlier = e ∷ r.earlier; entry = r.entry; later = r.later; whole = ap (λ l. e ∷ l) r.whole; left = r.left; reached = r.reached; passed = r.passed }
    go None p true q x rest =
        let same : ramp_after samples r start e ≡ rs = same_Some (ramp_after samples r start e) rs x in
        record {
          earlier = [];
          entry = e;
          later = history;
          whole = refl;
          left = sym same;
          reached = subst (λ t. (RampSink.sink t).horizon ≤ f) same (leb-true (ramp_after samples r start e).sink.horizon f q);
          passed = subst (λ t. RampsPast samples r t history f) same (none_past samples r (ramp_after samples r start e) history f p);
        }
    go None p false q x rest = absurd (none-some rs x)

-- ---- the whole run

-- a turn's horizon lies at or past what was consumed
entry_forward : (samples : Samples) (r : ℕ) (rs : RampSink) (e : Entry) → rs.sink.consumed ≤ rs.sink.filled → CanBe rs.sink e → (rs.sink.consumed ≤ (ramp_after samples r rs e).sink.consumed) × ((ramp_after samples r rs e).sink.consumed ≤ (ramp_after samples r rs e).sink.horizon)
entry_forward samples r rs (turn n messages) first c = (omega arith, omega (arith, c.0))
entry_forward samples r rs (stop messages) first c = (omega arith, omega arith)

-- a frame that was consumed is decided no more
past_decided : (samples : Samples) (r : ℕ) (rs : RampSink) (before : ℕ → Option Frame) (history : List Entry) (f : ℕ) → IsBuffer rs before → IsRampHistory samples r rs history → f < rs.sink.consumed → ramp_deciding samples r rs history f ≡ None
past_decided samples r rs before [] f b h l = refl
past_decided samples r rs before (e ∷ history) f b h l =
    let next : IsBuffer (ramp_after samples r rs e) (redecided samples r (ramp_after samples r rs e) before) = entry_buffer samples r rs before b e h.0 in
    let forward = entry_forward samples r rs e b.first h.0 in
    (λ i. option_or (past_decided samples r (ramp_after samples r rs e) (redecided samples r (ramp_after samples r rs e) before) history f next h.1 (omega (arith, l, forward.0)) i)
    (cond (lt-leb (ramp_after samples r rs e).sink.horizon f (omega (arith, l, forward.0, forward.1)) i) (Some (ramp_after samples r rs e)) None))

-- the frames that an entry plays are those that it consumes
entry_played : (samples : Samples) (r : ℕ) (rs : RampSink) (before : ℕ → Option Frame) → IsBuffer rs before → (e : Entry) → CanBe rs.sink e → (ramp_after samples r rs e).sink.consumed ≡ rs.sink.consumed + length (played_of rs.sink e)
entry_played samples r rs before b (turn n messages) c = omega (arith, length-take n rs.sink.buffer, b.full, c.0)
entry_played samples r rs before b (stop messages) c = omega arith

entry_plays : (samples : Samples) (r : ℕ) (rs : RampSink) (before : ℕ → Option Frame) → IsBuffer rs before → (e : Entry) → CanBe rs.sink e → (k : ℕ) → k < length (played_of rs.sink e) → slice_get (played_of rs.sink e) k ≡ before (rs.sink.consumed + k)
entry_plays samples r rs before b (turn n messages) c k l =
    get-take n rs.sink.buffer k (omega (arith, l, length-take n rs.sink.buffer)) ∙ b.each k (omega (arith, l, length-take n rs.sink.buffer, b.full))
entry_plays samples r rs before b (stop messages) c k l = absurd (omega (arith, l))

-- every frame of a run is what the run decides, and before it what was decided before
run_plays : (samples : Samples) (r : ℕ) (rs : RampSink) (before : ℕ → Option Frame) (history : List Entry) → IsBuffer rs before → IsRampHistory samples r rs history
    → (k : ℕ) → k < length (ramp_played samples r rs history) → slice_get (ramp_played samples r rs history) k ≡ decided_past samples r rs history before (rs.sink.consumed + k)
run_plays samples r rs before [] b h k l = absurd (omega (arith, l))
run_plays samples r rs before (e ∷ history) b h k l =
    let next : IsBuffer (ramp_after samples r rs e) (redecided samples r (ramp_after samples r rs e) before) = entry_buffer samples r rs before b e h.0 in
    let forward = entry_forward samples r rs e b.first h.0 in
    let played = entry_played samples r rs before b e h.0 in
    ⊎_elim
    (λ (now : k < length (played_of rs.sink e)).
    get_left (played_of rs.sink e) (ramp_played samples r (ramp_after samples r rs e) history) k now
    ∙ entry_plays samples r rs before b e h.0 k now
    ∙ (λ i. option_or
    (option_map (frame_ramped samples r (rs.sink.consumed + k))
    (option_or (sym (past_decided samples r (ramp_after samples r rs e) (redecided samples r (ramp_after samples r rs e) before) history (rs.sink.consumed + k) next h.1 (omega (arith, played, now))) i)
    (cond (sym (lt-leb (ramp_after samples r rs e).sink.horizon (rs.sink.consumed + k) (omega (arith, played, now, forward.1))) i) (Some (ramp_after samples r rs e)) None)))
    (before (rs.sink.consumed + k))))
    (λ (later : length (played_of rs.sink e) ≤ k).
    let rest : ℕ = k - length (played_of rs.sink e) in
    let whole : (ramp_after samples r rs e).sink.consumed + rest ≡ rs.sink.consumed + k = omega (arith, played, later) in
    get_right (played_of rs.sink e) (ramp_played samples r (ramp_after samples r rs e) history) rest k (omega (arith, later))
    ∙ run_plays samples r (ramp_after samples r rs e) (redecided samples r (ramp_after samples r rs e) before) history next h.1 rest
    (omega (arith, l, later, length-append (played_of rs.sink e) (ramp_played samples r (ramp_after samples r rs e) history)))
    ∙ past_joins (frame_ramped samples r ((ramp_after samples r rs e).sink.consumed + rest)) (ramp_deciding samples r (ramp_after samples r rs e) history ((ramp_after samples r rs e).sink.consumed + rest))
    (nat_le (ramp_after samples r rs e).sink.horizon ((ramp_after samples r rs e).sink.consumed + rest)) (ramp_after samples r rs e) (before ((ramp_after samples r rs e).sink.consumed + rest))
    ∙ ap (decided_past samples r rs (e ∷ history) before) whole)
    (cases_lt k (length (played_of rs.sink e)))

run_length : (samples : Samples) (r : ℕ) (rs : RampSink) (before : ℕ → Option Frame) (history : List Entry) → IsBuffer rs before → IsRampHistory samples r rs history → (ramp_replay samples r rs history).sink.consumed ≡ rs.sink.consumed + length (ramp_played samples r rs history)
run_length samples r rs before [] b h = omega arith
run_length samples r rs before (e ∷ history) b h =
    let next : IsBuffer (ramp_after samples r rs e) (redecided samples r (ramp_after samples r rs e) before) = entry_buffer samples r rs before b e h.0 in
    omega (
      arith,
      run_length samples r (ramp_after samples r rs e) (redecided samples r (ramp_after samples r rs e) before) history next h.1,
      entry_played samples r rs before b e h.0,
      length-append (played_of rs.sink e) (ramp_played samples r (ramp_after samples r rs e) history),
    )

empty_buffer : (spec : SampleSpec) (guard depth : ℕ) → IsBuffer (empty_ramp_sink spec guard depth) (λ f. None)
empty_buffer spec guard depth = record { first = omega arith; bounded = omega arith; full = refl; each = λ k l. absurd (omega arith) }

pub run_is_consumed : (samples : Samples) (r : ℕ) (spec : SampleSpec) (guard depth : ℕ) (history : List Entry) → IsRampHistory samples r (empty_ramp_sink spec guard depth) history
    → length (ramp_played samples r (empty_ramp_sink spec guard depth) history) ≡ (ramp_replay samples r (empty_ramp_sink spec guard depth) history).sink.consumed
run_is_consumed samples r spec guard depth history h = omega (arith, run_length samples r (empty_ramp_sink spec guard depth) (λ f. None) history (empty_buffer spec guard depth) h)

pub run_is_decided : (samples : Samples) (r : ℕ) (spec : SampleSpec) (guard depth : ℕ) (history : List Entry) → IsRampHistory samples r (empty_ramp_sink spec guard depth) history
    → (f : ℕ) → f < (ramp_replay samples r (empty_ramp_sink spec guard depth) history).sink.consumed → slice_get (ramp_played samples r (empty_ramp_sink spec guard depth) history) f ≡ ramp_decided samples r (empty_ramp_sink spec guard depth) history f
run_is_decided samples r spec guard depth history h f l =
    let start : RampSink = empty_ramp_sink spec guard depth in
    run_plays samples r start (λ f. None) history (empty_buffer spec guard depth) h f (omega (arith, l, run_is_consumed samples r spec guard depth history h))
    ∙ nothing_past (ramp_decided samples r start history (0 + f))
    ∙ ap (ramp_decided samples r start history) (plus_none f)
  where
    plus_none : (n : ℕ) → 0 + n ≡ n
    plus_none n = omega arith

pub run_has_one : (samples : Samples) (r : ℕ) (spec : SampleSpec) (guard depth : ℕ) (history : List Entry) → IsRampHistory samples r (empty_ramp_sink spec guard depth) history
    → (f : ℕ) → f < (ramp_replay samples r (empty_ramp_sink spec guard depth) history).sink.consumed → IsSome (ramp_deciding samples r (empty_ramp_sink spec guard depth) history f)
run_has_one samples r spec guard depth history h f l =
    let start : RampSink = empty_ramp_sink spec guard depth in
    some_mapped (frame_ramped samples r f) (ramp_deciding samples r start history f)
    (subst (λ o. IsSome o) (run_is_decided samples r spec guard depth history h f l) (got_elem (ramp_played samples r start history) f (omega (arith, l, run_is_consumed samples r spec guard depth history h))))
