use Rattle.std.proofs.Common.{◌≡◌, Bool, List, ◌++◌, length}
use Rattle.crossbeam_queue.specs.Passes.{IsPassOf}
use Rattle.px_mail.specs.Mailbox.{key_of, posted_by, stored_by}
use Rattle.px_lane_cell.specs.Moved.{Posts}
use Rattle.px_lane_cell.proofs.moving.post_notices.Given as goal

abbrev pub invariant-loop-notice : goal.invariant-loop-notice
invariant-loop-notice g l =
    IsPassOf l.outbox.queue l.pass.pass
    × (key_of l.pass.pass ≡ key_of l.fn.pass.pass)
    × Posts (posted_by l.fn.pass.pass) (posted_by l.pass.pass) l.fn.notices.notices l.notices.notices
    × ((calls : List Bool) × (stored_by l.pass.pass ≡ stored_by l.fn.pass.pass ++ calls))

-- how many are left
abbrev pub decreases-loop-notice : goal.decreases-loop-notice
decreases-loop-notice g l = length l.notices.notices
