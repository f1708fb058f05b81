use Rattle.crossbeam_queue.specs.Passes.{IsPassOf}
use Rattle.tests_mail.proofs.tests.mailbox.sends.Given as goal

abbrev pub invariant-loop : goal.invariant-loop
invariant-loop g l = IsPassOf l.mailbox.queue l.post.pass
