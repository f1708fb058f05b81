use Rattle.std.proofs.Common.{List, ap, sym, ◌∙◌, subst}
use Rattle.px_model.specs.Sink.{Input as Stands, IsRising, stream_at}
use Rattle.px_lane.specs.Room.{RoomyInputs}
use Rattle.px_lane.specs.Inputs.{inputs_of}
use Rattle.px_lane.specs.Costs.{has_others}
use Rattle.px_lane.proofs.inputs.Inputs.has_others.Goals as goal

pub has_others_at-requires : goal.has_others_at-requires
has_others_at-requires c = subst IsRising (sym (ap inputs_of c.as_slice.ensures.value)) c.self.invariant.0

pub returns-clause-others : goal.returns-clause-others
returns-clause-others c =
    c.has_others_at.ensures
    ∙ ap (λ (xs : List Stands). has_others c.args.factors.now (stream_at c.args.input.0 xs)) (ap inputs_of c.as_slice.ensures.value ∙ ap (λ (v : RoomyInputs). v.inputs) c.self.view_is)

pub returns-clause-rising : goal.returns-clause-rising
returns-clause-rising c = subst IsRising (ap (λ (v : RoomyInputs). v.inputs) c.self.view_is) c.self.invariant.0
