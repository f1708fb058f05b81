use Rattle.std.proofs.lemmas.Int.{to_z-of_z}
use Rattle.px_model.specs.Write.{target_of, seek_of, outcome_of}
use Rattle.px_queue.proofs.Ending.{ends_by, ends_outside}
use Rattle.px_queue.proofs.Hearing.{all_stay, placed_stay}
use Rattle.px_queue.proofs.queue.FrameQueue.unaltered.Goals as goal

pub returns-in-Err : goal.returns-in-Err
returns-in-Err c = λ written long.
    let q = c.args.self.now.queue in
    let p = target_of q (seek_of c.args.seek) c.args.offset in
    let missed = simp (to_z-of_z, c.ranges.offset) at c.in-Err.ensures.err.outside in
    all_stay q (outcome_of q c.args.limit p c.args.frames c.args.ahead) p written c.args.mixed (ends_outside q c.args.limit p c.args.frames c.args.ahead missed)

pub returns-in-Ok : goal.returns-in-Ok
returns-in-Ok c = λ written long.
    let q = c.args.self.now.queue in
    let p = target_of q (seek_of c.args.seek) c.args.offset in
    let first = simp (to_z-of_z, c.ranges.offset) at c.in-Ok.ensures.ok.first in
    let begins = simp (to_z-of_z, c.ranges.offset) at c.in-Ok.ensures.ok.begins in
    let ends = simp (to_z-of_z, c.ranges.offset) at c.in-Ok.ensures.ok.ends in
    let last = simp (to_z-of_z, c.ranges.offset) at c.in-Ok.ensures.ok.last in
    placed_stay q (outcome_of q c.args.limit p c.args.frames c.args.ahead) c.overflows-refused.result p c.in-Ok.both.0 written c.args.frames c.in-Ok.both.1 c.args.mixed c.unaltered_between.result
    first last long
    (ends_by q c.args.limit p c.args.frames c.args.ahead c.in-Ok.both.1 c.overflows-refused.result begins ends last (simp (to_z-of_z, c.ranges.ahead, c.ranges.limit) at c.overflows-refused.ensures))
    (c.unaltered_between.ensures written)
