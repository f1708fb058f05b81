use Rattle.crossbeam_queue.specs.Passes.{IsPassOf}
use Rattle.px_mail.specs.Mailbox.{key_of, posted_by}
use Rattle.tests_cells.specs.Gains.{Sends}
use Rattle.tests_cells.proofs.tests.full.turns_made.Given as goal

abbrev pub invariant-loop-number : goal.invariant-loop-number
invariant-loop-number g l = IsPassOf l.inbox.queue l.post.pass × Sends (key_of l.post.pass) (posted_by l.post.pass)
