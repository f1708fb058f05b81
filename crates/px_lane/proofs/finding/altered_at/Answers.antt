use Rattle.std.proofs.Common.{Option, ap, sym, ◌∙◌, subst}
use Rattle.px_model.specs.Stream.{Stream}
use Rattle.px_model.specs.Applied.{applied}
use Rattle.px_kept_mix.specs.Keeping.{SoundsOutside}
use Rattle.px_stream.specs.Messages.{message_of}
use Rattle.px_lane.specs.Taking.{SuitsAt}
use Rattle.px_lane.specs.Costs.{unaltered_there}
use Rattle.px_lane.proofs.Places.{at_stream, gap_stream}
use Rattle.px_lane.proofs.finding.altered_at.Goals as goal

pub of-requires : goal.of-requires
of-requires c =
    subst (λ (o : Option Stream). SuitsAt o (message_of c.args.change.now))
    (at_stream c.args.index.0 c.in-Ok.place c.args.inputs.now c.index-inputs-place.result c.in-Ok.ensures.ok)
    c.requires.suits

pub returns-in-Err-clause-from : goal.returns-in-Err-clause-from
returns-in-Err-clause-from c = ap (unaltered_there c.args.mixed (message_of c.args.change.now)) (sym (gap_stream c.args.index.0 c.in-Err.field-0 c.args.inputs.now c.in-Err.ensures.err))

pub returns-in-Err-clause-sounds : goal.returns-in-Err-clause-sounds
returns-in-Err-clause-sounds c =
    subst (λ (o : Option Stream). SoundsOutside c.args.mixed c.args.mixed 0 (applied c.args.mixed (message_of c.args.change.now)) o)
    (sym (gap_stream c.args.index.0 c.in-Err.field-0 c.args.inputs.now c.in-Err.ensures.err)) tt

pub returns-in-Ok-clause-from : goal.returns-in-Ok-clause-from
returns-in-Ok-clause-from c =
    c.of.ensures.from
    ∙ ap (unaltered_there c.args.mixed (message_of c.args.change.now)) (sym (at_stream c.args.index.0 c.in-Ok.place c.args.inputs.now c.index-inputs-place.result c.in-Ok.ensures.ok))

pub returns-in-Ok-clause-sounds : goal.returns-in-Ok-clause-sounds
returns-in-Ok-clause-sounds c =
    subst (λ (o : Option Stream). SoundsOutside c.args.mixed c.of.result.from c.of.result.to (applied c.args.mixed (message_of c.args.change.now)) o)
    (sym (at_stream c.args.index.0 c.in-Ok.place c.args.inputs.now c.index-inputs-place.result c.in-Ok.ensures.ok)) c.of.ensures.sounds
