use Rattle.crossbeam_queue.specs.Passes.{IsPassOf}
use Rattle.tests_mail.proofs.tests.mailbox.fills.Given as goal

abbrev pub invariant-loop-number : goal.invariant-loop-number
invariant-loop-number g l = IsPassOf l.mailbox.queue l.post.pass
