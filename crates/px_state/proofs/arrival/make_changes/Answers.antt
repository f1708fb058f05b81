use Rattle.std.proofs.Common.{◌+◌, length, ap, subst, sym, ◌∙◌}
use Rattle.px_ctl_play.specs.Arrival.{Arriving, arriving_with}
use Rattle.px_state.specs.Answered.{answered}
use Rattle.px_state.specs.Change.{committed}
use Rattle.px_state.specs.Tables.{state_of, HasRoom}
use Rattle.px_state.proofs.RoomForOne.{room_for_one}
use Rattle.px_state.proofs.arrival.make_changes.Goals as goal

pub apply-requires : goal.apply-requires
apply-requires g c = room_for_one (length c.args.made.later) c.args.tables.now c.requires

pub commit-requires : goal.commit-requires
commit-requires g c =
    c.apply.ensures.room (length c.made.inside.later.items) (subst (λ (a : Arriving _ _). HasRoom (length a.later + 1) c.args.tables.now) (sym c.made.view_is) c.requires)

pub returns : goal.returns
returns g c =
    c.commit.ensures.state
    ∙ ap (λ s. committed s c.made.inside.later.items) c.apply.ensures.state
    ∙ ap (λ (a : Arriving _ _). answered (state_of c.args.tables.now) (arriving_with c.args.input c.args.parcel a)) c.made.view_is
