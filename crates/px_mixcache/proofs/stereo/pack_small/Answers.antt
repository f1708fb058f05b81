use Rattle.std.proofs.Common.{◌≡◌, ◌*◌, ◌+◌, ◌-◌, ◌≤◌, length, ◌∙◌, arith}
use Rattle.px_sample.proofs.RunLemmas.{length_part}
use Rattle.px_mixcache.proofs.StereoFrames.{frames_more}
use Rattle.px_mixcache.proofs.stereo.pack_small.Goals as goal

pub loop-done-preserved : goal.loop-done-preserved
loop-done-preserved c =
    let left = c.args.left.now in
    let right = c.args.right.now in
    let done = c.loop-done.done in
    let less : done + 4 ≤ length left = c.loop-done-test.true in
    let fits : done * 4 + 16 ≤ length c.loop-done.out = omega (arith, less, c.loop-done.auto.out, c.requires.whole) in
    let size : length c.copy_from_slice.new.self ≡ 16 = c.copy_from_slice.ensures.len ∙ length_part c.loop-done.out (done * 4) 16 fits in (
      less,
      frames_more left right c.loop-done.out c.copy_from_slice.new.self done 4 (done * 4) (done * 4 + 16 - done * 4) ((done + 4) * 4)
          (omega (arith, fits)) (omega (arith, size)) c.loop-done.invariant.1 (c.copy_from_slice.ensures.after ∙ c.four_frames.ensures),
    )
