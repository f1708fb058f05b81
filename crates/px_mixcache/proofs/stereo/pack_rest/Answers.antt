use Rattle.std.proofs.Common.{rules, ◌≡◌, ◌*◌, ◌+◌, ◌-◌, ◌<◌, ◌≤◌, length, ◌∙◌, arith, sym, append-nil, w64, FitsSigned}
use Rattle.px_kernel.specs.Kernel.{at}
use Rattle.px_sample.proofs.RunLemmas.{length_part}
use Rattle.px_mixcache.specs.Packing.{stereo_frames}
use Rattle.px_mixcache.proofs.StereoFrames.{words_are, frames_more, all_stand}
use Rattle.px_mixcache.proofs.stereo.pack_rest.Goals as goal

pub loop-k-preserved : goal.loop-k-preserved
loop-k-preserved c =
    let left = c.args.left.now in
    let right = c.args.right.now in
    let k = c.loop-k.k in
    let less : k < length left = c.loop-k-test.true in
    let fits : k * 4 + 4 ≤ length c.loop-k.out = omega (arith, less, c.loop-k.auto.out, c.requires.whole) in
    let size : length c.copy_from_slice.new.self ≡ 4 = c.copy_from_slice.ensures.len ∙ length_part c.loop-k.out (k * 4) 4 fits in
    let l : FitsSigned w64 (at left k) = search rules in
    let r : FitsSigned w64 (at right k) = search rules in
    let made = words_are left right k c.copy_from_slice.new.self l r (c.copy_from_slice.ensures.after ∙ c.frame.ensures) in
    frames_more left right c.loop-k.out c.copy_from_slice.new.self k 1 (k * 4) (k * 4 + 4 - k * 4) ((k + 1) * 4)
    (omega (arith, fits)) (omega (arith, size)) c.loop-k.invariant (made ∙ sym (append-nil _))

pub returns : goal.returns
returns c =
    all_stand c.loop-k.out c.loop-k.k (length c.args.left.now) (stereo_frames c.args.left.now c.args.right.now 0)
    (omega (arith, c.loop-k-test.false, c.loop-k.auto.k-end)) (c.loop-k.auto.out ∙ c.requires.whole) c.loop-k.invariant
