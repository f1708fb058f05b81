use Rattle.std.proofs.Common.{arith, ◌≡◌, ◌+◌, ap, length, subst}
use Rattle.px_outcome.specs.declared.change.Change.TheVariants.{Released}
use Rattle.px_state.specs.Change.{committed}
use Rattle.px_state.specs.Tables.{state_of, HasRoom}
use Rattle.px_state.proofs.Releases.{releases_committed, as_many}
use Rattle.px_state.proofs.RoomForOne.{room_for_one}
use Rattle.px_state.proofs.commit.apply_first.Goals as goal

pub returns-in-Released-clause-state : goal.returns-in-Released-clause-state
returns-in-Released-clause-state g c =
    releases_committed c.in-Released.index c.take_releases-more.result c.args.change (state_of c.args.tables.now) (state_of c.release.new.tables) c.args.changes.now.items c.take_releases-more.new.changes.items
    c.in-Released.is c.take_releases-more.ensures.items c.release.ensures.state

pub returns-in-Released-clause-room : goal.returns-in-Released-clause-room
returns-in-Released-clause-room g c =
    let rest = c.take_releases-more.new.changes.items in
    let more = c.take_releases-more.result in
    let all : length c.args.changes.now.items + 1 ≡ length rest + (more + 1) = omega (arith, as_many (Released c.in-Released.index) more c.args.changes.now.items rest c.take_releases-more.ensures.items) in
    c.release.ensures.room (length rest) (subst (λ n. HasRoom n c.args.tables.now) all c.requires)

pub returns-in-Released-clause-len : goal.returns-in-Released-clause-len
returns-in-Released-clause-len g c =
    omega (arith, as_many (Released c.in-Released.index) c.take_releases-more.result c.args.changes.now.items c.take_releases-more.new.changes.items c.take_releases-more.ensures.items)

pub apply-requires : goal.apply-requires
apply-requires g c = room_for_one (length c.args.changes.now.items) c.args.tables.now c.requires

pub returns-in_default-clause-state : goal.returns-in_default-clause-state
returns-in_default-clause-state g c = ap (λ s. committed s c.args.changes.now.items) c.apply.ensures.state

pub returns-in_default-clause-room : goal.returns-in_default-clause-room
returns-in_default-clause-room g c = c.apply.ensures.room (length c.args.changes.now.items) c.requires
