use Rattle.std.proofs.Common.{◌≡◌, ◌≤◌, ◌-◌, Bool, List, ◌++◌, length}
use Rattle.crossbeam_queue.specs.Passes.{IsPassOf}
use Rattle.px_mail.specs.Mailbox.{key_of, taken_by, found_by}
use Rattle.px_lane_cell.specs.Moved.{AreTaken, Takes}
use Rattle.px_lane_cell.proofs.moving.take_messages.Given as goal

abbrev pub invariant-loop-pass : goal.invariant-loop-pass
invariant-loop-pass g l =
    IsPassOf l.inbox.queue l.pass.pass
    × (key_of l.pass.pass ≡ key_of l.fn.pass.pass)
    × AreTaken (key_of l.pass.pass) (taken_by l.pass.pass)
    × Takes (taken_by l.fn.pass.pass) (taken_by l.pass.pass) l.fn.messages.messages l.messages.messages
    × (length l.messages.messages ≤ 256)
    × (l.messages.capacity ≡ l.fn.messages.capacity)
    × ((calls : List Bool) × (found_by l.pass.pass ≡ found_by l.fn.pass.pass ++ calls))

-- how many more it may take
abbrev pub decreases-loop-pass : goal.decreases-loop-pass
decreases-loop-pass g l = 256 - length l.messages.messages
