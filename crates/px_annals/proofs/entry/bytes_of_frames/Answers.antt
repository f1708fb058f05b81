use Rattle.std.proofs.Common.{length, arith}
use Rattle.px_annals.specs.declared.stream.PlainFrame.{PlainFrame}
use Rattle.px_annals.proofs.Size.{ended}
use Rattle.px_annals.proofs.entry.bytes_of_frames.Goals as goal

pub returns : goal.returns
returns c =
    ended (λ f. length (PlainFrame.bytes f)) c.loop-frame.bytes c.loop-frame.frame-index c.args.frames.now c.loop-frame.invariant.0 c.loop-frame.invariant.1
    (omega (arith, c.loop-frame-test.false))
