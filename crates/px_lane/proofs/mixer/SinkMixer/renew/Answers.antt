use Rattle.std.proofs.Common.{◌≡◌, ℕ, ◌+◌, ◌-◌, ◌*◌, ◌≤◌, ◌++◌, List, length, map, take, drop, ap, sym, ◌∙◌, subst, arith}
use Rattle.std.proofs.Math.Nat.{add-mul, mul-le-mul_left, mul-le-mul_right}
use Rattle.std.specs.List.{concat, range_with_len}
use Rattle.px_sample.specs.Format.{frame_size_of}
use Rattle.px_sample.specs.declared.spec.Spec.{Spec}
use Rattle.px_msg.specs.View.{sample_spec}
use Rattle.px_model.specs.Frame.{Frame}
use Rattle.px_model.specs.Sink.{Sink, streams_of}
use Rattle.px_model.specs.Mix.{mix_of}
use Rattle.px_stream.specs.Samples.{samples}
use Rattle.px_lane.specs.Mixing.{RoomySink, Counts, sink_of}
use Rattle.px_lane.specs.Unaltered.{IsResumed}
use Rattle.px_lane.proofs.Remixing.{renewed_unaltered, renewed_front}
use Rattle.px_lane.proofs.mixer.SinkMixer.renew.Goals as goal

pub pack_part-requires-clause-order : goal.pack_part-requires-clause-order
pack_part-requires-clause-order g c = omega (arith, c.max-end.ensures)

pub pack_part-requires-clause-mixed : goal.pack_part-requires-clause-mixed
pack_part-requires-clause-mixed g c = omega (arith, c.min.ensures, c.max-end.ensures, c.self.invariant.3.within, c.self.invariant.6)

pub pack_part-requires-clause-size : goal.pack_part-requires-clause-size
pack_part-requires-clause-size g c =
    let d = c.self.inside in
    let all : (d.horizon - d.consumed) + c.max-end.result ≡ ((d.horizon - d.consumed) + d.unaltered) + (c.max-end.result - d.unaltered) = omega (arith, c.max-end.ensures) in
    ap (λ (n : ℕ). n * c.frame_size-size.result) all
    ∙ add-mul ((d.horizon - d.consumed) + d.unaltered) (c.max-end.result - d.unaltered) c.frame_size-size.result
    ∙ ap (λ (n : ℕ). ((d.horizon - d.consumed) + d.unaltered) * c.frame_size-size.result + (c.max-end.result - d.unaltered) * n) c.frame_size-size.ensures
    ∙ ap (λ (s : Spec). ((d.horizon - d.consumed) + d.unaltered) * c.frame_size-size.result + (c.max-end.result - d.unaltered) * frame_size_of s) (sym c.self.invariant.4)

pub pack_part-requires-clause-inside : goal.pack_part-requires-clause-inside
pack_part-requires-clause-inside g c =
    let d = c.self.inside in
    let h = c.self.invariant.1 in
    let few : (d.horizon - d.consumed) + c.max-end.result ≤ d.depth =
    omega (arith, c.min.ensures, c.max-end.ensures, c.self.invariant.3.within, h.consumed_first, h.horizon_first, h.filled_bounded) in
    subst (λ (n : ℕ). ((d.horizon - d.consumed) + c.max-end.result) * n ≤ length d.bytes) (sym c.frame_size-size.ensures)
    (omega (arith, c.self.invariant.2, mul-le-mul_right (frame_size_of d.spec) few))

pub invariant_of-self : goal.invariant_of-self
invariant_of-self g c =
    let d = c.self.inside in
    let h = c.self.invariant.1 in
    let made : c.pack_part.new.self ≡ take (((d.horizon - d.consumed) + d.unaltered) * frame_size_of d.spec) d.bytes
    ++ (concat (map (mix_of samples (sample_spec d.spec) (streams_of d.inputs.inputs)) (range_with_len d.unaltered (c.max-end.result - d.unaltered))) ++ drop (((d.horizon - d.consumed) + c.max-end.result) * frame_size_of d.spec) d.bytes) =
    c.pack_part.ensures.bytes
    ∙ ap (λ (s : Spec). take (((d.horizon - d.consumed) + d.unaltered) * c.frame_size-size.result) d.bytes
    ++ (concat (map (mix_of samples (sample_spec s) (streams_of d.inputs.inputs)) (range_with_len d.unaltered (c.max-end.result - d.unaltered))) ++ drop (((d.horizon - d.consumed) + c.max-end.result) * c.frame_size-size.result) d.bytes)) c.self.invariant.4
    ∙ ap (λ (m : ℕ). take (((d.horizon - d.consumed) + d.unaltered) * m) d.bytes
    ++ (concat (map (mix_of samples (sample_spec d.spec) (streams_of d.inputs.inputs)) (range_with_len d.unaltered (c.max-end.result - d.unaltered))) ++ drop (((d.horizon - d.consumed) + c.max-end.result) * m) d.bytes)) c.frame_size-size.ensures in
    let counts : Counts = record { guard = d.guard; depth = d.depth; consumed = d.consumed; filled = d.filled; horizon = d.horizon } in
    let low : d.unaltered ≤ c.max-end.result = omega (arith, c.max-end.ensures) in
    let within : c.max-end.result ≤ d.filled - d.horizon = omega (arith, c.min.ensures, c.max-end.ensures, c.self.invariant.3.within) in
    let again = subst (λ (m : RoomySink). IsResumed c.args.to m.sink) (sym c.self.view_is) c.requires in (
      c.self.invariant.0,
      c.self.invariant.1,
      c.pack_part.ensures.size ∙ c.self.invariant.2,
      renewed_unaltered d.spec c.self.invariant.0.linear counts h d.stopped d.bytes c.pack_part.new.self d.inputs.inputs d.unaltered c.max-end.result c.max-end.result c.self.invariant.2 low (omega arith) within made
          c.self.invariant.3 (λ k past less. again k (omega (arith, past, less, c.min.ensures, c.max-end.ensures)) less),
      c.self.invariant.4,
      c.self.invariant.5,
      c.self.invariant.6,
    )

pub returns-clause-value : goal.returns-clause-value
returns-clause-value g c =
    let d = c.self.inside in
    let counts : Counts = record { guard = d.guard; depth = d.depth; consumed = d.consumed; filled = d.filled; horizon = d.horizon } in
    let buffer : List Frame = Sink.buffer (sink_of d.spec counts d.stopped c.pack_part.new.self d.inputs.inputs) in
    ap (λ (m : RoomySink). let s : Sink = record m.sink { buffer = buffer } in s) c.self.view_is

pub returns-clause-stay : goal.returns-clause-stay
returns-clause-stay g c =
    let d = c.self.inside in
    let h = c.self.invariant.1 in
    let made : c.pack_part.new.self ≡ take (((d.horizon - d.consumed) + d.unaltered) * frame_size_of d.spec) d.bytes
    ++ (concat (map (mix_of samples (sample_spec d.spec) (streams_of d.inputs.inputs)) (range_with_len d.unaltered (c.max-end.result - d.unaltered))) ++ drop (((d.horizon - d.consumed) + c.max-end.result) * frame_size_of d.spec) d.bytes) =
    c.pack_part.ensures.bytes
    ∙ ap (λ (s : Spec). take (((d.horizon - d.consumed) + d.unaltered) * c.frame_size-size.result) d.bytes
    ++ (concat (map (mix_of samples (sample_spec s) (streams_of d.inputs.inputs)) (range_with_len d.unaltered (c.max-end.result - d.unaltered))) ++ drop (((d.horizon - d.consumed) + c.max-end.result) * c.frame_size-size.result) d.bytes)) c.self.invariant.4
    ∙ ap (λ (m : ℕ). take (((d.horizon - d.consumed) + d.unaltered) * m) d.bytes
    ++ (concat (map (mix_of samples (sample_spec d.spec) (streams_of d.inputs.inputs)) (range_with_len d.unaltered (c.max-end.result - d.unaltered))) ++ drop (((d.horizon - d.consumed) + c.max-end.result) * m) d.bytes)) c.frame_size-size.ensures in
    let counts : Counts = record { guard = d.guard; depth = d.depth; consumed = d.consumed; filled = d.filled; horizon = d.horizon } in
    let low : d.unaltered ≤ c.max-end.result = omega (arith, c.max-end.ensures) in
    let within : c.max-end.result ≤ d.filled - d.horizon = omega (arith, c.min.ensures, c.max-end.ensures, c.self.invariant.3.within) in
    subst (λ (m : RoomySink). take ((m.sink.horizon - m.sink.consumed) + m.unaltered) (Sink.buffer (sink_of d.spec (record { guard = d.guard; depth = d.depth; consumed = d.consumed; filled = d.filled; horizon = d.horizon }) d.stopped c.pack_part.new.self d.inputs.inputs))
    ≡ take ((m.sink.horizon - m.sink.consumed) + m.unaltered) m.sink.buffer) c.self.view_is
    (renewed_front d.spec c.self.invariant.0.linear counts h d.stopped d.bytes c.pack_part.new.self d.inputs.inputs d.unaltered c.max-end.result c.max-end.result c.self.invariant.2 low (omega arith) within made)

pub returns-clause-within : goal.returns-clause-within
returns-clause-within g c = subst (λ (m : RoomySink). m.unaltered ≤ m.sink.filled - m.sink.horizon) c.self.view_is c.self.invariant.3.within

pub returns-clause-more : goal.returns-clause-more
returns-clause-more g c = ap (λ (m : RoomySink). m.sink.filled - m.sink.horizon) c.self.view_is

pub returns-clause-ticks : goal.returns-clause-ticks
returns-clause-ticks g c =
    let d = c.self.inside in
    let few : c.max-end.result - d.unaltered ≤ (d.filled - d.horizon) - d.unaltered = omega (arith, c.min.ensures, c.max-end.ensures, c.self.invariant.3.within) in
    let none : (d.filled - d.horizon) - (d.filled - d.horizon) ≡ 0 = omega arith in
    let paid = subst (λ (s : Spec). c.pack_part.new.steps ≡ c.args.steps.now + s.channels * (c.max-end.result - d.unaltered)) c.self.invariant.4 c.pack_part.ensures.ticks in
    subst (λ (m : RoomySink). c.pack_part.new.steps + m.sink.spec.channels * ((m.sink.filled - m.sink.horizon) - (d.filled - d.horizon))
    ≤ c.args.steps.now + m.sink.spec.channels * ((m.sink.filled - m.sink.horizon) - m.unaltered)) c.self.view_is
    (omega (arith, paid, ap (λ (n : ℕ). d.spec.channels * n) none, mul-le-mul_left d.spec.channels few))
