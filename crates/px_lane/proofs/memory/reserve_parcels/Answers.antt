use Rattle.std.proofs.Common.{◌∙◌, arith}
use Rattle.px_lane.specs.Lists.{plain_message}
use Rattle.px_lane.specs.Taking.{BringsRoom}
use Rattle.px_lane.proofs.Reserved.{same_set, all_more}
use Rattle.px_lane.proofs.memory.reserve_parcels.Goals as goal

pub returns-in_err-reserve_parcel-clause-same : goal.returns-in_err-reserve_parcel-clause-same
returns-in_err-reserve_parcel-clause-same c =
    let l = c.loop-message in
    same_set plain_message l.messages l.message-index c.message-item.result c.reserve_parcel.new.message c.reserve_parcel.ensures.same ∙ l.invariant.0

pub loop-message-preserved : goal.loop-message-preserved
loop-message-preserved c =
    let l = c.loop-message in (
      same_set plain_message l.messages l.message-index c.message-item.result c.reserve_parcel.new.message c.reserve_parcel.ensures.same ∙ l.invariant.0,
      all_more (BringsRoom c.args.room c.args.blocks) l.messages l.message-index c.reserve_parcel.new.message (omega (arith, c.loop-message-test.true, l.auto.messages)) l.invariant.1 c.in_ok-reserve_parcel.ensures.room,
    )
