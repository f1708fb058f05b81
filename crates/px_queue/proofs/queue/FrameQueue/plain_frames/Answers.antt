use Rattle.std.proofs.Common.{rules, arith, ◌<◌, ◌++◌, ◌∙◌, List, length, ap, sym}
use Rattle.px_annals.specs.declared.stream.PlainFrame.{PlainFrame}
use Rattle.px_model.specs.Held.{place}
use Rattle.px_model.specs.Index.{onward}
use Rattle.px_queue.specs.Plain.{frame_at}
use Rattle.px_queue.proofs.Listed.{one_more}
use Rattle.px_queue.proofs.queue.FrameQueue.plain_frames.Goals as goal

pub loop-k-preserved : goal.loop-k-preserved
loop-k-preserved c =
    let added = c.in_ok-add_frame.ensures in
    let below : c.loop-k.k < length c.args.self.now.queue.held = search rules in (
      added
          ∙ ap (λ (frames : List PlainFrame). frames ++ frame_at (onward c.args.self.now.queue.read c.loop-k.k) (place c.args.self.now.queue.held c.loop-k.k)) c.loop-k.invariant.0
          ∙ sym (one_more (λ k. frame_at (onward c.args.self.now.queue.read k) (place c.args.self.now.queue.held k)) c.loop-k.k),
      omega (arith, below),
    )
