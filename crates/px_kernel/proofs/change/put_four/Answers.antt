use Rattle.px_kernel.proofs.Changing.{four_set}
use Rattle.px_kernel.proofs.Shares.{lane_read}
use Rattle.px_kernel.proofs.change.put_four.Goals as goal

pub returns : goal.returns
returns c =
    four_set c.args.sums.now c.args.from
    (lane_read c.args.lanes 0 c.requires.room)
    (lane_read c.args.lanes 1 c.requires.room)
    (lane_read c.args.lanes 2 c.requires.room)
    (lane_read c.args.lanes 3 c.requires.room)
