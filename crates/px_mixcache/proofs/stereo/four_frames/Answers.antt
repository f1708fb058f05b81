use Rattle.std.proofs.Common.{◌+◌, arith}
use Rattle.px_mixcache.proofs.StereoFrames.{four_are, small_is}
use Rattle.px_mixcache.proofs.stereo.four_frames.Goals as goal

pub returns : goal.returns
returns c =
    let left = c.args.left.now in
    let right = c.args.right.now in
    let k = c.args.k in
    four_are left right k c.small_frame.result c.small_frame-2.result c.small_frame-3.result c.small_frame-4.result
    (small_is left right k c.small_frame.result (c.requires.left k (omega (arith, c.requires.inside))) (c.requires.right k (omega (arith, c.requires.inside))) c.small_frame.ensures)
    (small_is left right (k + 1) c.small_frame-2.result (c.requires.left (k + 1) (omega (arith, c.requires.inside))) (c.requires.right (k + 1) (omega (arith, c.requires.inside))) c.small_frame-2.ensures)
    (small_is left right (k + 2) c.small_frame-3.result (c.requires.left (k + 2) (omega (arith, c.requires.inside))) (c.requires.right (k + 2) (omega (arith, c.requires.inside))) c.small_frame-3.ensures)
    (small_is left right (k + 3) c.small_frame-4.result (c.requires.left (k + 3) (omega (arith, c.requires.inside))) (c.requires.right (k + 3) (omega (arith, c.requires.inside))) c.small_frame-4.ensures)
