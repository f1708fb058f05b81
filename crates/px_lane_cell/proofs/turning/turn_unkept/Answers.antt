use Rattle.std.proofs.Common.{refl}
use Rattle.px_annals.specs.declared.entry.LaneEntry.{LaneEntry}
use Rattle.px_lane_cell.proofs.Told.{told_all, all_same, as_many}
use Rattle.px_lane_cell.proofs.Whole.{is_noted}
use Rattle.px_lane_cell.specs.Turning.{consumed_in}
use Rattle.px_lane_cell.proofs.turning.turn_unkept.Goals as goal

pub returns-in-Ok-clause-ok : goal.returns-in-Ok-clause-ok
returns-in-Ok-clause-ok g c =
    let messages = c.args.messages.now.messages in
    let entry : LaneEntry = record { consumed = consumed_in c.in-Ok.turned; messages = told_all messages } in (
      entry,
      as_many messages,
      c.in-Ok.ensures.empty,
      is_noted g.D.Device.now c.args.lane.now c.counted.new.lane messages c.args.notices.now.notices c.counted.new.notices.notices c.in-Ok.turned entry refl (all_same messages c.len.ensures.parcels) c.in-Ok.ensures.ok,
    )
