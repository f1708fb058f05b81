use Rattle.std.proofs.Common.{◌≡◌, ℕ, ◌+◌, ◌-◌, ◌*◌, ◌≤◌, ◌++◌, List, length, map, take, drop, ap, sym, ◌∙◌, subst, arith}
use Rattle.std.specs.List.{concat, range_with_len}
use Rattle.std.proofs.Math.Nat.{add-mul, mul-le-mul_left}
use Rattle.px_sample.specs.Format.{frame_size_of}
use Rattle.px_msg.specs.View.{sample_spec}
use Rattle.px_model.specs.Mix.{mix_of}
use Rattle.px_model.specs.Sink.{streams_of}
use Rattle.px_stream.specs.Samples.{samples}
use Rattle.px_lane.specs.Inputs.{inputs_of}
use Rattle.px_ramp.specs.RampMix.{ramp_frame}
use Rattle.px_ramp.specs.Table.{HeldFrames}
use Rattle.px_ramp.proofs.buffer.RampBuffer.remix.Goals as goal

pub keep-requires : goal.keep-requires
keep-requires g c =
    let held : (c.args.gone + c.args.below) * frame_size_of c.self.inside.spec ≤ length c.self.inside.bytes.items =
    subst (λ (v : HeldFrames). (c.args.gone + c.args.below) * frame_size_of v.spec ≤ length v.bytes) (sym c.self.view_is) c.requires.held in
    subst (λ (m : ℕ). c.args.gone * m + c.args.below * m ≤ length c.self.inside.bytes.items) (sym c.frame_size-size.ensures)
    (omega (arith, held, add-mul c.args.gone c.args.below (frame_size_of c.self.inside.spec)))

pub mix_into-requires-clause-room : goal.mix_into-requires-clause-room
mix_into-requires-clause-room g c =
    let low : c.args.below ≤ c.self.inside.depth = subst (λ (v : HeldFrames). c.args.below ≤ v.depth) (sym c.self.view_is) c.requires.low in
    let whole : c.args.below + (c.self.inside.depth - c.args.below) ≡ c.self.inside.depth = omega (arith, low) in
    let kept : length c.keep.new.bytes.items ≡ c.args.below * frame_size_of c.self.inside.spec = c.keep.ensures.size ∙ ap (λ (m : ℕ). c.args.below * m) c.frame_size-size.ensures in
    omega (
      arith,
      kept,
      c.keep.ensures.capacity,
      c.self.invariant.4,
      add-mul c.args.below (c.self.inside.depth - c.args.below) (frame_size_of c.self.inside.spec),
      ap (λ (m : ℕ). m * frame_size_of c.self.inside.spec) whole,
    )

pub mix_into-requires-clause-size : goal.mix_into-requires-clause-size
mix_into-requires-clause-size g c =
    let few : c.self.inside.depth - c.args.below ≤ c.self.inside.depth = omega arith in
    omega (arith, c.self.invariant.8, mul-le-mul_left c.self.inside.spec.channels few)

pub mix_into-requires-clause-plain : goal.mix_into-requires-clause-plain
mix_into-requires-clause-plain g c =
    subst (λ (v : HeldFrames). c.args.plain.now ≡ concat (map (mix_of samples (sample_spec v.spec) (streams_of (inputs_of c.args.inputs.now))) (range_with_len 0 (v.depth - c.args.below)))) (sym c.self.view_is) c.requires.plain

pub returns-clause-bytes : goal.returns-clause-bytes
returns-clause-bytes g c =
    c.mix_into.ensures.bytes
    ∙ ap (λ (xs : List ℕ). xs ++ concat (map (ramp_frame samples c.self.inside.ramp c.args.horizon c.self.inside.table.ramps (sample_spec c.self.inside.spec) (inputs_of c.args.inputs.now)) (range_with_len 0 (c.self.inside.depth - c.args.below))))
    (c.keep.ensures.items ∙ ap (λ (m : ℕ). take (c.args.below * m) (drop (c.args.gone * m) c.self.inside.bytes.items)) c.frame_size-size.ensures)
    ∙ ap (λ (v : HeldFrames). take (c.args.below * frame_size_of v.spec) (drop (c.args.gone * frame_size_of v.spec) v.bytes)
    ++ concat (map (ramp_frame samples v.ramp c.args.horizon v.ramps (sample_spec v.spec) (inputs_of c.args.inputs.now)) (range_with_len 0 (v.depth - c.args.below)))) c.self.view_is

pub invariant_of-self : goal.invariant_of-self
invariant_of-self g c = (
  c.self.invariant.0,
  c.self.invariant.1,
  c.self.invariant.2,
  c.self.invariant.3,
  omega (arith, c.self.invariant.4, c.keep.ensures.capacity, c.mix_into.ensures.capacity),
  c.mix_into.ensures.none,
  c.mix_into.ensures.depth ∙ c.self.invariant.6,
  c.mix_into.ensures.channels ∙ c.self.invariant.7,
  c.mix_into.ensures.size ∙ c.self.invariant.8,
  c.mix_into.ensures.words,
)
