use Rattle.crossbeam_queue.specs.Passes.{IsPassOf}
use Rattle.px_mail.specs.Mailbox.{key_of, posted_by}
use Rattle.tests_cells.specs.Gains.{IsGain, Sends}
use Rattle.tests_cells.proofs.tests.lane.sent.Given as goal

abbrev pub invariant-loop : goal.invariant-loop
invariant-loop g l = IsPassOf l.inbox.queue l.post.pass × Sends (key_of l.post.pass) (posted_by l.post.pass) × IsGain l.message
