use Rattle.px_msg.specs.declared.message.Msg.TheVariants.{Attach}
use Rattle.px_state.specs.Tables.{state_of}
use Rattle.px_state.proofs.AddedLaws.{arrival_shown}
use Rattle.px_state.proofs.arrival.finish_arrival.Goals as goal

pub effects_with_room-requires-clause-after : goal.effects_with_room-requires-clause-after
effects_with_room-requires-clause-after g c =
    arrival_shown _ (state_of c.args.tables.now) c.args.input (Attach c.args.input c.args.parcel c.args.made.feed c.args.made.factors) c.args.made.later c.requires.after
