use Rattle.std.proofs.Common.{◌≡◌, ℕ, ◌+◌, ◌-◌, ◌*◌, ◌≤◌, map, length, take, drop, ap, sym, ◌∙◌, subst, arith}
use Rattle.std.proofs.Math.Nat.{mul-le-mul_right}
use Rattle.px_sample.specs.Format.{frame_size_of}
use Rattle.px_model.specs.Frame.{frames_of}
use Rattle.std.specs.List.{AllByRecursion}
use Rattle.px_model.specs.Sink.{Sink, Input, IsStreamOf, with_stream}
use Rattle.px_model.specs.Going.{after}
use Rattle.px_model.specs.Turn.{settled, next_horizon}
use Rattle.px_lane.specs.Mixing.{RoomySink, sink_of}
use Rattle.px_lane.specs.Unaltered.{IsUnaltered}
use Rattle.px_lane.proofs.Buffers.{frames_moved, same_parts}
use Rattle.px_msg.specs.View.{sample_spec}
use Rattle.px_lane.proofs.Mixable.{streams_are}
use Rattle.px_lane.proofs.Staying.{settled_stays}
use Rattle.px_lane.proofs.mixer.SinkMixer.settle.Goals as goal

pub go-requires-clause-there : goal.go-requires-clause-there
go-requires-clause-there g c =
    let d = c.self.inside in
    let h = c.self.invariant.1 in
    omega (arith, c.self.invariant.6, c.min-horizon.ensures)

pub go-requires-clause-streams : goal.go-requires-clause-streams
go-requires-clause-streams g c =
    let d = c.self.inside in
    let streams = subst (λ (m : RoomySink). AllByRecursion (λ x. IsStreamOf m.sink.spec (Input.stream x)) m.sink.inputs) (sym c.self.view_is) c.requires.streams in
    streams_are (sample_spec d.spec) d.inputs.inputs streams

pub invariant_of-self : goal.invariant_of-self
invariant_of-self g c =
    let d = c.self.inside in
    let h = c.self.invariant.1 in
    let n = c.args.frames in
    let before : Sink = sink_of d.spec (record { guard = d.guard; depth = d.depth; consumed = d.consumed; filled = d.filled; horizon = d.horizon }) d.stopped d.bytes d.inputs.inputs in
    let there : n ≤ d.filled - d.consumed = subst (λ (m : RoomySink). n ≤ m.sink.filled - m.sink.consumed) (sym c.self.view_is) c.requires.there in
    let streams = subst (λ (m : RoomySink). AllByRecursion (λ x. IsStreamOf m.sink.spec (Input.stream x)) m.sink.inputs) (sym c.self.view_is) c.requires.streams in
    let all : n + (d.filled - (d.consumed + n)) ≡ d.filled - d.consumed = omega (arith, there) in
    let fit : n + (d.filled - (d.consumed + n)) ≤ d.depth = omega (arith, all, h.filled_bounded) in
    let left : c.saturating_sub-self-inside.result ≡ d.unaltered - (next_horizon before n - d.horizon) =
    c.saturating_sub-self-inside.ensures ∙ ap (λ (to : ℕ). d.unaltered - (to - d.horizon)) c.min-horizon.ensures in (
      c.self.invariant.0,
      record {
        consumed_first = omega (arith, there, h.consumed_first, h.horizon_first, c.min-horizon.ensures);
        horizon_first = omega (arith, c.min-horizon.ensures);
        horizon_near = omega (arith, c.min-horizon.ensures);
        filled_bounded = omega (arith, h.filled_bounded);
        depth_bounded = h.depth_bounded;
        countable = h.countable;
      },
      c.advance.ensures.size ∙ c.self.invariant.2,
      subst (λ (s : Sink). IsUnaltered c.saturating_sub-self-inside.result s)
          (sym (same_parts (settled before n) c.min-horizon.result (next_horizon before n) (frames_of (frame_size_of d.spec) (d.filled - (d.consumed + n)) c.advance.new.self) (settled before n).buffer
          c.go.new.self.inputs (settled before n).inputs c.min-horizon.ensures
          (frames_moved (frame_size_of d.spec) n (d.filled - (d.consumed + n)) d.bytes c.advance.new.self
          (subst (λ (m : ℕ). take (length d.bytes - n * m) c.advance.new.self ≡ drop (n * m) d.bytes) c.frame_size-size.ensures c.advance.ensures.front)
          (omega (arith, c.self.invariant.2, mul-le-mul_right (frame_size_of d.spec) fit))
          ∙ ap (λ (m : ℕ). drop n (frames_of (frame_size_of d.spec) m d.bytes)) all)
          (c.go.ensures.inputs ∙ ap (λ (to : ℕ). map (with_stream (λ s. after s (to - d.horizon))) d.inputs.inputs) c.min-horizon.ensures)))
          (subst (λ (m : ℕ). IsUnaltered m (settled before n)) (sym left)
          (settled_stays before d.unaltered n h.consumed_first h.horizon_first h.horizon_near there streams c.self.invariant.3)),
      c.go.ensures.spec ∙ c.self.invariant.4,
      c.go.ensures.depth ∙ c.self.invariant.5,
      omega (arith, c.go.ensures.frames, c.self.invariant.6, c.min-horizon.ensures, h.consumed_first, h.horizon_first, h.horizon_near, there),
    )

pub returns-clause-value : goal.returns-clause-value
returns-clause-value g c =
    let d = c.self.inside in
    let h = c.self.invariant.1 in
    let n = c.args.frames in
    let before : Sink = sink_of d.spec (record { guard = d.guard; depth = d.depth; consumed = d.consumed; filled = d.filled; horizon = d.horizon }) d.stopped d.bytes d.inputs.inputs in
    let there : n ≤ d.filled - d.consumed = subst (λ (m : RoomySink). n ≤ m.sink.filled - m.sink.consumed) (sym c.self.view_is) c.requires.there in
    let all : n + (d.filled - (d.consumed + n)) ≡ d.filled - d.consumed = omega (arith, there) in
    let fit : n + (d.filled - (d.consumed + n)) ≤ d.depth = omega (arith, all, h.filled_bounded) in
    same_parts (settled before n) c.min-horizon.result (next_horizon before n) (frames_of (frame_size_of d.spec) (d.filled - (d.consumed + n)) c.advance.new.self) (settled before n).buffer
    c.go.new.self.inputs (settled before n).inputs c.min-horizon.ensures
    (frames_moved (frame_size_of d.spec) n (d.filled - (d.consumed + n)) d.bytes c.advance.new.self
    (subst (λ (m : ℕ). take (length d.bytes - n * m) c.advance.new.self ≡ drop (n * m) d.bytes) c.frame_size-size.ensures c.advance.ensures.front)
    (omega (arith, c.self.invariant.2, mul-le-mul_right (frame_size_of d.spec) fit))
    ∙ ap (λ (m : ℕ). drop n (frames_of (frame_size_of d.spec) m d.bytes)) all)
    (c.go.ensures.inputs ∙ ap (λ (to : ℕ). map (with_stream (λ s. after s (to - d.horizon))) d.inputs.inputs) c.min-horizon.ensures)
    ∙ ap (λ (m : RoomySink). settled m.sink n) c.self.view_is
