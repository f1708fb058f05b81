use Rattle.crossbeam_queue.specs.Passes.{view}
use Rattle.px_mail.proofs.Deliveries.{merges}
use Rattle.px_mail.proofs.mailbox.Mailbox.close.Goals as goal

pub absorb-requires-clause-rule : goal.absorb-requires-clause-rule
absorb-requires-clause-rule g c = merges g.T.Letter.lawful _ (view c.args.post.pass) _ (view c.args.take.pass) c.args.post.posts c.args.take.takes
