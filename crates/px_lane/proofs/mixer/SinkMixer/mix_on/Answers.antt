use Rattle.std.proofs.Common.{◌≡◌, ℕ, ◌+◌, ◌-◌, ◌*◌, ◌^◌, ◌≤◌, ◌++◌, List, length, map, take, ap, sym, ◌∙◌, subst, arith}
use Rattle.std.proofs.Math.Nat.{add-mul}
use Rattle.std.specs.List.{concat, range_with_len}
use Rattle.px_sample.specs.Format.{frame_size_of}
use Rattle.px_msg.specs.View.{sample_spec}
use Rattle.px_sample.specs.declared.spec.Spec.{Spec}
use Rattle.px_model.specs.Sink.{Sink, Input, streams_of}
use Rattle.px_model.specs.Mix.{mix_of}
use Rattle.px_model.specs.Turn.{remixed}
use Rattle.px_lane.specs.Mixing.{RoomySink, Counts, sink_of}
use Rattle.px_lane.specs.Unaltered.{IsUnaltered}
use Rattle.px_stream.specs.Samples.{samples}
use Rattle.px_lane.proofs.Shares.{frames_sized}
use Rattle.px_lane.proofs.Remixing.{remixed_is, front_stays, all_stays}
use Rattle.px_lane.specs.Costs.{mix_cost}
use Rattle.px_lane.proofs.Costs.{mixed_cost}
use Rattle.px_lane.proofs.mixer.SinkMixer.mix_on.Goals as goal

pub mix-requires-clause-more : goal.mix-requires-clause-more
mix-requires-clause-more g c =
    let h = c.self.invariant.1 in
    omega (arith, c.self.invariant.6, h.consumed_first, h.horizon_first, h.filled_bounded)

pub mix-requires-clause-fits : goal.mix-requires-clause-fits
mix-requires-clause-fits g c = omega (arith, c.self.invariant.5)

pub pack-requires-clause-from : goal.pack-requires-clause-from
pack-requires-clause-from g c =
    let h = c.self.invariant.1 in
    omega (arith, c.mix.ensures.frames, c.self.invariant.3.within, h.consumed_first, h.horizon_first, h.filled_bounded)

pub pack-requires-clause-size : goal.pack-requires-clause-size
pack-requires-clause-size g c =
    let d = c.self.inside in
    let h = c.self.invariant.1 in
    let left : c.mix.new.self.frames - d.unaltered ≡ d.depth - ((d.horizon - d.consumed) + d.unaltered) = omega (arith, c.mix.ensures.frames) in
    let all : ((d.horizon - d.consumed) + d.unaltered) + (d.depth - ((d.horizon - d.consumed) + d.unaltered)) ≡ d.depth = omega (arith, h.consumed_first, h.horizon_first, h.filled_bounded, c.self.invariant.3.within) in
    c.self.invariant.2 ∙ ap (λ (n : ℕ). n * frame_size_of d.spec) (sym all)
    ∙ add-mul ((d.horizon - d.consumed) + d.unaltered) (d.depth - ((d.horizon - d.consumed) + d.unaltered)) (frame_size_of d.spec)
    ∙ ap (λ (n : ℕ). ((d.horizon - d.consumed) + d.unaltered) * n + (d.depth - ((d.horizon - d.consumed) + d.unaltered)) * frame_size_of d.spec) (sym c.frame_size.ensures)
    ∙ ap (λ (n : ℕ). ((d.horizon - d.consumed) + d.unaltered) * c.frame_size.result + n * frame_size_of d.spec) (sym left)
    ∙ ap (λ (s : Spec). ((d.horizon - d.consumed) + d.unaltered) * c.frame_size.result + (c.mix.new.self.frames - d.unaltered) * frame_size_of s) (sym (c.mix.ensures.spec ∙ c.self.invariant.4))

pub invariant_of-self : goal.invariant_of-self
invariant_of-self g c =
    let d = c.self.inside in
    let h = c.self.invariant.1 in
    let left : c.mix.new.self.frames - d.unaltered ≡ d.depth - ((d.horizon - d.consumed) + d.unaltered) = omega (arith, c.mix.ensures.frames) in
    let made : c.pack.new.self ≡ take (((d.horizon - d.consumed) + d.unaltered) * frame_size_of d.spec) d.bytes
    ++ concat (map (mix_of samples (sample_spec d.spec) (streams_of d.inputs.inputs)) (range_with_len d.unaltered (d.depth - ((d.horizon - d.consumed) + d.unaltered)))) =
    c.pack.ensures.bytes
    ∙ ap (λ (s : Spec). take (((d.horizon - d.consumed) + d.unaltered) * c.frame_size.result) d.bytes ++ concat (map (mix_of samples (sample_spec s) (streams_of c.mix.new.self.inputs)) (range_with_len d.unaltered (c.mix.new.self.frames - d.unaltered)))) (c.mix.ensures.spec ∙ c.self.invariant.4)
    ∙ ap (λ (xs : List Input). take (((d.horizon - d.consumed) + d.unaltered) * c.frame_size.result) d.bytes ++ concat (map (mix_of samples (sample_spec d.spec) (streams_of xs)) (range_with_len d.unaltered (c.mix.new.self.frames - d.unaltered)))) c.mix.ensures.inputs
    ∙ ap (λ (n : ℕ). take (((d.horizon - d.consumed) + d.unaltered) * c.frame_size.result) d.bytes ++ concat (map (mix_of samples (sample_spec d.spec) (streams_of d.inputs.inputs)) (range_with_len d.unaltered n))) left
    ∙ ap (λ (m : ℕ). take (((d.horizon - d.consumed) + d.unaltered) * m) d.bytes ++ concat (map (mix_of samples (sample_spec d.spec) (streams_of d.inputs.inputs)) (range_with_len d.unaltered (d.depth - ((d.horizon - d.consumed) + d.unaltered))))) c.frame_size.ensures in
    let counts : Counts = record { guard = d.guard; depth = d.depth; consumed = d.consumed; filled = d.filled; horizon = d.horizon } in (
      c.self.invariant.0,
      record {
        consumed_first = h.consumed_first;
        horizon_first = omega (arith, h.horizon_first, h.filled_bounded);
        horizon_near = h.horizon_near;
        filled_bounded = omega arith;
        depth_bounded = h.depth_bounded;
        countable = subst (λ (m : RoomySink). m.sink.consumed + m.sink.depth ≤ 2 ^ 61) (sym c.self.view_is) c.requires.countable;
      },
      c.pack.ensures.size ∙ c.self.invariant.2,
      subst (λ (xs : List Input). IsUnaltered (d.depth - (d.horizon - d.consumed)) (sink_of d.spec (record { guard = d.guard; depth = d.depth; consumed = d.consumed; filled = d.consumed + d.depth; horizon = d.horizon }) d.stopped c.pack.new.self xs)) (sym c.mix.ensures.inputs)
          (subst (λ (s : Sink). IsUnaltered (d.depth - (d.horizon - d.consumed)) s)
          (sym (remixed_is d.spec c.self.invariant.0.linear counts h d.stopped d.bytes d.inputs.inputs d.unaltered c.self.invariant.2 c.self.invariant.3 c.pack.new.self made))
          (all_stays d.spec c.self.invariant.0.linear counts h d.stopped d.bytes d.inputs.inputs d.unaltered c.self.invariant.2 c.self.invariant.3)),
      c.mix.ensures.spec ∙ c.self.invariant.4,
      c.mix.ensures.depth ∙ c.self.invariant.5,
      omega (arith, c.mix.ensures.frames, h.consumed_first, h.horizon_first, h.filled_bounded),
    )

pub returns-clause-value : goal.returns-clause-value
returns-clause-value g c =
    let d = c.self.inside in
    let h = c.self.invariant.1 in
    let left : c.mix.new.self.frames - d.unaltered ≡ d.depth - ((d.horizon - d.consumed) + d.unaltered) = omega (arith, c.mix.ensures.frames) in
    let made : c.pack.new.self ≡ take (((d.horizon - d.consumed) + d.unaltered) * frame_size_of d.spec) d.bytes
    ++ concat (map (mix_of samples (sample_spec d.spec) (streams_of d.inputs.inputs)) (range_with_len d.unaltered (d.depth - ((d.horizon - d.consumed) + d.unaltered)))) =
    c.pack.ensures.bytes
    ∙ ap (λ (s : Spec). take (((d.horizon - d.consumed) + d.unaltered) * c.frame_size.result) d.bytes ++ concat (map (mix_of samples (sample_spec s) (streams_of c.mix.new.self.inputs)) (range_with_len d.unaltered (c.mix.new.self.frames - d.unaltered)))) (c.mix.ensures.spec ∙ c.self.invariant.4)
    ∙ ap (λ (xs : List Input). take (((d.horizon - d.consumed) + d.unaltered) * c.frame_size.result) d.bytes ++ concat (map (mix_of samples (sample_spec d.spec) (streams_of xs)) (range_with_len d.unaltered (c.mix.new.self.frames - d.unaltered)))) c.mix.ensures.inputs
    ∙ ap (λ (n : ℕ). take (((d.horizon - d.consumed) + d.unaltered) * c.frame_size.result) d.bytes ++ concat (map (mix_of samples (sample_spec d.spec) (streams_of d.inputs.inputs)) (range_with_len d.unaltered n))) left
    ∙ ap (λ (m : ℕ). take (((d.horizon - d.consumed) + d.unaltered) * m) d.bytes ++ concat (map (mix_of samples (sample_spec d.spec) (streams_of d.inputs.inputs)) (range_with_len d.unaltered (d.depth - ((d.horizon - d.consumed) + d.unaltered))))) c.frame_size.ensures in
    let counts : Counts = record { guard = d.guard; depth = d.depth; consumed = d.consumed; filled = d.filled; horizon = d.horizon } in
    ap (λ (xs : List Input). sink_of d.spec (record { guard = d.guard; depth = d.depth; consumed = d.consumed; filled = d.consumed + d.depth; horizon = d.horizon }) d.stopped c.pack.new.self xs) c.mix.ensures.inputs
    ∙ remixed_is d.spec c.self.invariant.0.linear counts h d.stopped d.bytes d.inputs.inputs d.unaltered c.self.invariant.2 c.self.invariant.3 c.pack.new.self made
    ∙ ap (λ (m : RoomySink). remixed samples m.sink) c.self.view_is

pub returns-clause-stay : goal.returns-clause-stay
returns-clause-stay g c =
    let d = c.self.inside in
    let h = c.self.invariant.1 in
    let left : c.mix.new.self.frames - d.unaltered ≡ d.depth - ((d.horizon - d.consumed) + d.unaltered) = omega (arith, c.mix.ensures.frames) in
    let made : c.pack.new.self ≡ take (((d.horizon - d.consumed) + d.unaltered) * frame_size_of d.spec) d.bytes
    ++ concat (map (mix_of samples (sample_spec d.spec) (streams_of d.inputs.inputs)) (range_with_len d.unaltered (d.depth - ((d.horizon - d.consumed) + d.unaltered)))) =
    c.pack.ensures.bytes
    ∙ ap (λ (s : Spec). take (((d.horizon - d.consumed) + d.unaltered) * c.frame_size.result) d.bytes ++ concat (map (mix_of samples (sample_spec s) (streams_of c.mix.new.self.inputs)) (range_with_len d.unaltered (c.mix.new.self.frames - d.unaltered)))) (c.mix.ensures.spec ∙ c.self.invariant.4)
    ∙ ap (λ (xs : List Input). take (((d.horizon - d.consumed) + d.unaltered) * c.frame_size.result) d.bytes ++ concat (map (mix_of samples (sample_spec d.spec) (streams_of xs)) (range_with_len d.unaltered (c.mix.new.self.frames - d.unaltered)))) c.mix.ensures.inputs
    ∙ ap (λ (n : ℕ). take (((d.horizon - d.consumed) + d.unaltered) * c.frame_size.result) d.bytes ++ concat (map (mix_of samples (sample_spec d.spec) (streams_of d.inputs.inputs)) (range_with_len d.unaltered n))) left
    ∙ ap (λ (m : ℕ). take (((d.horizon - d.consumed) + d.unaltered) * m) d.bytes ++ concat (map (mix_of samples (sample_spec d.spec) (streams_of d.inputs.inputs)) (range_with_len d.unaltered (d.depth - ((d.horizon - d.consumed) + d.unaltered))))) c.frame_size.ensures in
    let counts : Counts = record { guard = d.guard; depth = d.depth; consumed = d.consumed; filled = d.filled; horizon = d.horizon } in
    let at : ℕ = (d.horizon - d.consumed) + d.unaltered in
    subst (λ (m : RoomySink). take ((m.sink.horizon - m.sink.consumed) + m.unaltered) (Sink.buffer (sink_of d.spec (record { guard = d.guard; depth = d.depth; consumed = d.consumed; filled = d.consumed + d.depth; horizon = d.horizon }) d.stopped c.pack.new.self c.mix.new.self.inputs)) ≡ take ((m.sink.horizon - m.sink.consumed) + m.unaltered) m.sink.buffer) c.self.view_is
    (front_stays d.spec c.self.invariant.0.linear counts h d.stopped d.bytes d.inputs.inputs d.unaltered c.self.invariant.2 c.self.invariant.3 c.pack.new.self made)

pub returns-clause-whole : goal.returns-clause-whole
returns-clause-whole g c =
    let d = c.self.inside in
    frames_sized d.spec (d.consumed + d.depth - d.consumed) d.depth c.pack.new.self (c.pack.ensures.size ∙ c.self.invariant.2) (omega arith)

pub returns-clause-ticks : goal.returns-clause-ticks
returns-clause-ticks g c =
    let d = c.self.inside in
    let h = c.self.invariant.1 in
    let more : d.depth - (d.horizon - d.consumed) - d.inputs.frames ≡ d.consumed + d.depth - d.filled = omega (arith, c.self.invariant.6, h.consumed_first, h.horizon_first, h.filled_bounded) in
    let added = subst (λ (x : ℕ). c.mix.new.steps ≤ c.args.steps.now + length d.inputs.inputs * (2 * (d.spec.channels * x))) more
    (subst (λ (s : Spec). c.mix.new.steps ≤ c.args.steps.now + length d.inputs.inputs * (2 * (s.channels * (d.depth - (d.horizon - d.consumed) - d.inputs.frames)))) c.self.invariant.4 c.mix.ensures.ticks) in
    subst (λ (m : RoomySink). c.pack.new.steps ≤ c.args.steps.now + m.sink.spec.channels * mix_cost (m.sink.consumed + m.sink.depth - m.sink.filled) (length m.sink.inputs)
    + m.sink.spec.channels * ((m.sink.filled - m.sink.horizon) - m.unaltered)) c.self.view_is
    (mixed_cost d.spec.channels (d.consumed + d.depth - d.filled) (length d.inputs.inputs) (d.filled - d.horizon) d.unaltered (c.mix.new.self.frames - d.unaltered) c.args.steps.now c.mix.new.steps c.pack.new.steps
    (omega (arith, c.mix.ensures.frames, h.consumed_first, h.horizon_first, h.filled_bounded, c.self.invariant.3.within))
    added
    (c.pack.ensures.ticks ∙ ap (λ (s : Spec). c.mix.new.steps + s.channels * (c.mix.new.self.frames - d.unaltered)) (c.mix.ensures.spec ∙ c.self.invariant.4)))

pub returns-clause-unaltered : goal.returns-clause-unaltered
returns-clause-unaltered g c =
    let h = c.self.invariant.1 in
    omega (arith, h.consumed_first, h.horizon_first, h.filled_bounded)
