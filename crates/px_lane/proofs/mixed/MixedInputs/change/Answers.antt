use Rattle.std.proofs.Common.{◌≡◌, ℕ, ◌+◌, ◌-◌, ◌*◌, ◌<◌, ◌≤◌, List, Option, false, true, ap, sym, ◌∙◌, subst, arith}
use Rattle.px_model.specs.Stream.{Stream}
use Rattle.px_model.specs.Applied.{applied}
use Rattle.px_model.specs.Mix.{mix_of}
use Rattle.px_model.specs.Sink.{Input, streams_of, stream_at, with_change}
use Rattle.px_stream.specs.Samples.{samples}
use Rattle.px_stream.specs.Messages.{message_of}
use Rattle.px_kept_mix.specs.Kept.{changed_there}
use Rattle.px_kept_mix.specs.Keeping.{AreLittleThere, SharesBetweenThere, SoundsOutside, IsKept}
use Rattle.px_kept_mix.proofs.Exchanging.{small}
use Rattle.px_kept_mix.proofs.Stretches.{one_more_between, changes_between}
use Rattle.px_lane.specs.Mixed.{SummedInputs, CanMix}
use Rattle.px_lane.specs.Costs.{unaltered_there}
use Rattle.px_lane.proofs.Sharing.{roomy, changed_at_index}
use Rattle.px_lane.proofs.Sounding.{sounds_wider, unaltered_mixes, resumed_mixes}
use Rattle.px_lane.proofs.Costs.{two_shares_within}
use Rattle.px_lane.proofs.mixed.MixedInputs.change.Goals as goal

pub share_between-requires-clause-order : goal.share_between-requires-clause-order
share_between-requires-clause-order g c = omega (arith, c.max-to.ensures)

pub share_between-requires-clause-inside : goal.share_between-requires-clause-inside
share_between-requires-clause-inside g c = omega (arith, c.min-from.ensures, c.max-to.ensures, c.altered-altered.ensures.inside, c.self.invariant.3)

pub share_between-requires-clause-room : goal.share_between-requires-clause-room
share_between-requires-clause-room g c =
    let d = c.self.inside in
    roomy 256 d.kept (omega arith) (small d.spec d.inputs.inputs d.kept c.self.invariant.2 c.self.invariant.1.few)

pub share_between-requires-2-clause-order : goal.share_between-requires-2-clause-order
share_between-requires-2-clause-order g c = omega (arith, c.max-to.ensures)

pub share_between-requires-2-clause-inside : goal.share_between-requires-2-clause-inside
share_between-requires-2-clause-inside g c =
    omega (arith, c.min-from.ensures, c.max-to.ensures, c.altered-altered.ensures.inside, c.self.invariant.3, c.share_between.ensures.large.frames)

pub share_between-requires-2-clause-room : goal.share_between-requires-2-clause-room
share_between-requires-2-clause-room g c =
    let d = c.self.inside in
    roomy 257 c.share_between.new.kept (omega arith)
    (one_more_between false d.spec (stream_at c.args.input.0 d.inputs.inputs) c.min-from.result c.max-to.result 256 d.kept c.share_between.new.kept
    (small d.spec d.inputs.inputs d.kept c.self.invariant.2 c.self.invariant.1.few)
    c.share_between.ensures.large c.self.invariant.2.channels c.share_between.ensures.sums c.share_between.ensures.little)

pub invariant_of-self : goal.invariant_of-self
invariant_of-self g c =
    let d = c.self.inside in
    let i = c.args.input.0 in
    let f = applied d.frames (message_of c.args.change) in
    let mixes : CanMix d.spec.channels (with_change c.args.input.0 (applied d.frames (message_of c.args.change)) d.inputs.inputs) =
    subst (λ (v : SummedInputs). CanMix v.spec.channels (with_change c.args.input.0 (applied v.frames (message_of c.args.change)) v.inputs)) (sym c.self.view_is) c.requires.mixes in
    let come : stream_at c.args.input.0 c.change-refused.new.self.inputs ≡ changed_there (applied d.frames (message_of c.args.change)) (stream_at c.args.input.0 d.inputs.inputs) =
    ap (λ (xs : List Input). stream_at c.args.input.0 xs) c.change-refused.ensures.inputs ∙ changed_at_index c.args.input.0 (applied d.frames (message_of c.args.change)) d.inputs.inputs in
    let sounds : SoundsOutside d.kept.frames c.min-from.result c.max-to.result (applied d.frames (message_of c.args.change)) (stream_at c.args.input.0 d.inputs.inputs) =
    subst (λ (n : ℕ). SoundsOutside n c.min-from.result c.max-to.result (applied d.frames (message_of c.args.change)) (stream_at c.args.input.0 d.inputs.inputs)) c.self.invariant.3
    (sounds_wider d.frames c.altered-altered.result.from c.altered-altered.result.to c.min-from.result c.max-to.result (applied d.frames (message_of c.args.change)) (stream_at c.args.input.0 d.inputs.inputs)
    c.altered-altered.ensures.sounds (omega (arith, c.min-from.ensures)) (omega (arith, c.max-to.ensures))) in (
      c.self.invariant.0,
      subst (CanMix d.spec.channels) (sym c.change-refused.ensures.inputs) mixes,
      subst (λ (xs : List Input). IsKept d.spec xs c.share_between-2.new.kept) (sym c.change-refused.ensures.inputs)
          (changes_between d.spec d.inputs.inputs c.args.input.0 c.min-from.result c.max-to.result (applied d.frames (message_of c.args.change)) d.kept c.share_between.new.kept c.share_between-2.new.kept
          c.self.invariant.2 c.share_between.ensures.rising sounds c.share_between.ensures.large c.share_between.ensures.sums c.share_between-2.ensures.large
          (subst (λ (o : Option Stream). SharesBetweenThere true d.spec o c.min-from.result c.max-to.result c.share_between.new.kept c.share_between-2.new.kept) come c.share_between-2.ensures.sums)
          (subst (λ (o : Option Stream). AreLittleThere d.spec o c.min-from.result c.max-to.result) come c.share_between-2.ensures.little)),
      c.self.invariant.3 ∙ sym (c.share_between-2.ensures.large.frames ∙ c.share_between.ensures.large.frames),
    )

pub returns-clause-inputs : goal.returns-clause-inputs
returns-clause-inputs g c = c.change-refused.ensures.inputs ∙ ap (λ (v : SummedInputs). with_change c.args.input.0 (applied v.frames (message_of c.args.change)) v.inputs) c.self.view_is

pub returns-clause-unaltered : goal.returns-clause-unaltered
returns-clause-unaltered g c = c.altered-altered.ensures.from ∙ ap (λ (v : SummedInputs). unaltered_there v.frames (message_of c.args.change) (stream_at c.args.input.0 v.inputs)) c.self.view_is

pub returns-clause-mixes : goal.returns-clause-mixes
returns-clause-mixes g c = λ sink k less.
    let d = c.self.inside in
    ap (λ (xs : List Input). mix_of samples sink (streams_of xs) k) c.change-refused.ensures.inputs
    ∙ unaltered_mixes sink d.frames (message_of c.args.change) c.args.input.0 d.inputs.inputs c.share_between.ensures.rising k (omega (arith, less, c.altered-altered.ensures.from))
    ∙ ap (λ (v : SummedInputs). mix_of samples sink (streams_of v.inputs) k) c.self.view_is

pub returns-clause-resumes : goal.returns-clause-resumes
returns-clause-resumes g c = λ sink k past less.
    let d = c.self.inside in
    ap (λ (xs : List Input). mix_of samples sink (streams_of xs) k) c.change-refused.ensures.inputs
    ∙ resumed_mixes sink d.frames c.altered-altered.result.from c.altered-altered.result.to (applied d.frames (message_of c.args.change)) c.args.input.0 d.inputs.inputs
    c.share_between.ensures.rising c.altered-altered.ensures.sounds k past (subst (λ (v : SummedInputs). k < v.frames) (sym c.self.view_is) less)
    ∙ ap (λ (v : SummedInputs). mix_of samples sink (streams_of v.inputs) k) c.self.view_is

pub returns-clause-ticks : goal.returns-clause-ticks
returns-clause-ticks g c =
    let d = c.self.inside in
    subst (λ (v : SummedInputs). c.share_between-2.new.steps ≤ c.args.steps.now + v.spec.channels * (4 * (v.frames - c.altered-altered.result.from))) c.self.view_is
    (two_shares_within d.spec.channels c.max-to.result c.min-from.result (d.frames - c.altered-altered.result.from) c.args.steps.now c.share_between.new.steps c.share_between-2.new.steps
    (omega (arith, c.min-from.ensures, c.max-to.ensures, c.altered-altered.ensures.inside)) c.share_between.ensures.ticks c.share_between-2.ensures.ticks)
