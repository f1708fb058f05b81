use Rattle.std.proofs.Common.{◌+◌, arith, pos, get_or}
use Rattle.px_kernel.proofs.Shares.{four_same}
use Rattle.px_kernel.proofs.Clipped.{lane_fits, lane_read}
use Rattle.px_kernel.proofs.clip.clip_lanes.Goals as goal

pub overflow_cast-result : goal.overflow_cast-result
overflow_cast-result c =
    let sums = c.args.sums.now in
    let from = c.args.from in
    let most = c.args.most in (
      lane_fits most (get_or sums from (pos 0)) c.requires.most (c.requires.room from (omega (arith, c.requires.inside))),
      (
        lane_fits most (get_or sums (from + 1) (pos 0)) c.requires.most (c.requires.room (from + 1) (omega (arith, c.requires.inside))),
        (
          lane_fits most (get_or sums (from + 2) (pos 0)) c.requires.most (c.requires.room (from + 2) (omega (arith, c.requires.inside))),
          (lane_fits most (get_or sums (from + 3) (pos 0)) c.requires.most (c.requires.room (from + 3) (omega (arith, c.requires.inside))), tt),
        ),
      ),
    )

pub returns : goal.returns
returns c =
    let sums = c.args.sums.now in
    let from = c.args.from in
    let most = c.args.most in
    four_same
    (lane_read most (get_or sums from (pos 0)) c.requires.most (c.requires.room from (omega (arith, c.requires.inside))))
    (lane_read most (get_or sums (from + 1) (pos 0)) c.requires.most (c.requires.room (from + 1) (omega (arith, c.requires.inside))))
    (lane_read most (get_or sums (from + 2) (pos 0)) c.requires.most (c.requires.room (from + 2) (omega (arith, c.requires.inside))))
    (lane_read most (get_or sums (from + 3) (pos 0)) c.requires.most (c.requires.room (from + 3) (omega (arith, c.requires.inside))))
