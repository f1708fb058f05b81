use Rattle.std.proofs.Common.{◌≡◌, [], IfSome}
use Rattle.crossbeam_queue.specs.Passes.{IsPassOf}
use Rattle.px_mail.specs.Mailbox.{key_of, taken_by}
use Rattle.px_workers.proofs.handed.works.Given as goal

abbrev pub invariant-loop : goal.invariant-loop
invariant-loop g l = IsPassOf l.mailbox.queue l.take.pass × IfSome (key_of l.take.pass) (λ key. key.value ≡ l.given.value) × (taken_by l.take.pass ≡ [])
