use Rattle.std.proofs.Common.{◌∙◌, List, ap, sym, subst}
use Rattle.px_model.specs.Sink.{Input as Stands, IsRising, stream_at}
use Rattle.px_lane.specs.Room.{RoomyInputs}
use Rattle.px_lane.specs.Inputs.{inputs_of}
use Rattle.px_lane.specs.Taking.{AreFed}
use Rattle.px_kept_mix.specs.Keeping.{SharesBetweenThere, AreLittleThere}
use Rattle.px_lane.proofs.inputs.Inputs.share_between.Goals as goal

pub share_between_at-requires-clause-rising : goal.share_between_at-requires-clause-rising
share_between_at-requires-clause-rising g c = subst IsRising (sym (ap inputs_of c.as_slice.ensures.value)) c.self.invariant.0

pub share_between_at-requires-clause-fed : goal.share_between_at-requires-clause-fed
share_between_at-requires-clause-fed g c =
    subst (AreFed c.args.sink.now.channels) (sym (ap inputs_of c.as_slice.ensures.value ∙ ap (λ (v : RoomyInputs). v.inputs) c.self.view_is)) c.requires.fed

pub returns-clause-rising : goal.returns-clause-rising
returns-clause-rising g c = subst IsRising (ap (λ (v : RoomyInputs). v.inputs) c.self.view_is) c.self.invariant.0

pub returns-clause-sums : goal.returns-clause-sums
returns-clause-sums g c =
    subst (λ (xs : List Stands). SharesBetweenThere c.args.add c.args.sink.now (stream_at c.args.input.0 xs) c.args.from c.args.to c.args.kept.now c.share_between_at.new.kept)
    (ap inputs_of c.as_slice.ensures.value ∙ ap (λ (v : RoomyInputs). v.inputs) c.self.view_is) c.share_between_at.ensures.sums

pub returns-clause-little : goal.returns-clause-little
returns-clause-little g c =
    subst (λ (xs : List Stands). AreLittleThere c.args.sink.now (stream_at c.args.input.0 xs) c.args.from c.args.to)
    (ap inputs_of c.as_slice.ensures.value ∙ ap (λ (v : RoomyInputs). v.inputs) c.self.view_is) c.share_between_at.ensures.little
