use Rattle.std.proofs.Common.{List, ap, ◌∙◌, subst}
use Rattle.px_model.specs.Applied.{applied}
use Rattle.px_model.specs.Sink.{Input as Stands, stream_at}
use Rattle.px_kept_mix.specs.Keeping.{SoundsOutside}
use Rattle.px_stream.specs.Messages.{message_of}
use Rattle.px_lane.specs.Room.{RoomyInputs}
use Rattle.px_lane.specs.Inputs.{inputs_of}
use Rattle.px_lane.specs.Costs.{unaltered_there}
use Rattle.px_lane.proofs.inputs.Inputs.altered.Goals as goal

pub returns-clause-from : goal.returns-clause-from
returns-clause-from c =
    c.altered_at.ensures.from
    ∙ ap (λ (xs : List Stands). unaltered_there c.args.mixed (message_of c.args.change.now) (stream_at c.args.input.0 xs)) (ap inputs_of c.as_slice.ensures.value ∙ ap (λ (v : RoomyInputs). v.inputs) c.self.view_is)

pub returns-clause-sounds : goal.returns-clause-sounds
returns-clause-sounds c =
    subst (λ (xs : List Stands). SoundsOutside c.args.mixed c.altered_at.result.from c.altered_at.result.to (applied c.args.mixed (message_of c.args.change.now)) (stream_at c.args.input.0 xs))
    (ap inputs_of c.as_slice.ensures.value ∙ ap (λ (v : RoomyInputs). v.inputs) c.self.view_is) c.altered_at.ensures.sounds
