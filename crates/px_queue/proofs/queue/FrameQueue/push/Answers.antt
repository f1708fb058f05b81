use Rattle.std.proofs.Common.{ℕ, Bool, cond, ap, sym, ◌∙◌, Option, arith, length}
use Rattle.std.specs.Prelude.{ℤ}
use Rattle.std.proofs.lemmas.Int.{to_z-of_z}
use Rattle.px_block.specs.Given.{after_giving, blocks_for}
use Rattle.px_block.proofs.Giving.{giving_both}
use Rattle.px_model.specs.Frame.{frames_of}
use Rattle.px_model.specs.Index.{onward}
use Rattle.px_model.specs.Write.{stored, overflow, queue_with, target_of, seek_of}
use Rattle.px_queue.proofs.Storing.{length_frames}
use Rattle.px_queue.proofs.Ending.{ends_by}
use Rattle.px_queue.proofs.queue.FrameQueue.push.Goals as goal

pub returns-then-overflows-clause-outcome : goal.returns-then-overflows-clause-outcome
returns-then-overflows-clause-outcome g c =
    let q = c.args.self.now.queue in
    let begins = simp (to_z-of_z, c.ranges.offset) at c.in-Ok.ensures.ok.begins in
    let ends = simp (to_z-of_z, c.ranges.offset) at c.in-Ok.ensures.ok.ends in
    let last = simp (to_z-of_z, c.ranges.offset) at c.in-Ok.ensures.ok.last in
    sym (ends_by q c.args.limit (target_of q (seek_of c.args.seek) c.args.offset) c.args.frames c.args.ahead c.in-Ok.both.1 c.overflows.result begins ends last (simp (to_z-of_z, c.ranges.ahead, c.ranges.limit) at c.overflows.ensures)
    ∙ ap (λ (b : Bool). cond b overflow stored) c.if-overflows.true)

pub returns-then-overflows-clause-queue : goal.returns-then-overflows-clause-queue
returns-then-overflows-clause-queue g c =
    let q = c.args.self.now.queue in
    let p = target_of q (seek_of c.args.seek) c.args.offset in
    let frames = frames_of c.args.self.now.frame c.args.frames c.args.bytes in
    let last = simp (to_z-of_z, c.ranges.offset) at c.in-Ok.ensures.ok.last in
    c.skip_to.ensures.queue p frames (last ∙ ap (onward p) (sym (length_frames c.args.self.now.frame c.args.frames c.args.bytes)))

pub returns-then-overflows-clause-given : goal.returns-then-overflows-clause-given
returns-then-overflows-clause-given g c =
    let given = g.B.BlockSource.given c.args.blocks.now in
    let n = blocks_for (length c.args.bytes) in
    ap (λ (o : Option ℕ). after_giving o c.skip_to.new.self.blocks) c.give_back-then-overflows.ensures
    ∙ giving_both given n c.skip_to.new.self.blocks
    ∙ ap (λ (m : ℕ). after_giving given m) (omega (arith, c.skip_to.ensures.blocks))

pub returns-clause-outcome : goal.returns-clause-outcome
returns-clause-outcome g c =
    let q = c.args.self.now.queue in
    let begins = simp (to_z-of_z, c.ranges.offset) at c.in-Ok.ensures.ok.begins in
    let ends = simp (to_z-of_z, c.ranges.offset) at c.in-Ok.ensures.ok.ends in
    let last = simp (to_z-of_z, c.ranges.offset) at c.in-Ok.ensures.ok.last in
    sym (ends_by q c.args.limit (target_of q (seek_of c.args.seek) c.args.offset) c.args.frames c.args.ahead c.in-Ok.both.1 c.overflows.result begins ends last (simp (to_z-of_z, c.ranges.ahead, c.ranges.limit) at c.overflows.ensures)
    ∙ ap (λ (b : Bool). cond b overflow stored) c.if-overflows.false)

pub returns-clause-queue : goal.returns-clause-queue
returns-clause-queue g c =
    let q = c.args.self.now.queue in
    let first = simp (to_z-of_z, c.ranges.offset) at c.in-Ok.ensures.ok.first in
    c.store.ensures.queue ∙ ap (λ (i : ℤ). queue_with stored q i (frames_of c.args.self.now.frame c.args.frames c.args.bytes)) first
