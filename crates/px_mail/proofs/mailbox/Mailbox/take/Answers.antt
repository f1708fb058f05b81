use Rattle.std.proofs.Common.{refl}
use Rattle.crossbeam_queue.specs.Passes.{view}
use Rattle.px_mail.specs.Mailbox.{after_empty}
use Rattle.px_mail.proofs.Deliveries.{takes, empties, notes}
use Rattle.px_mail.proofs.mailbox.Mailbox.take.Goals as goal

pub pop_as-requires-clause-rule : goal.pop_as-requires-clause-rule
pop_as-requires-clause-rule g c = (takes g.T.Letter.lawful _ (view c.args.pass.now.pass) c.args.pass.now.takes, empties g.T.Letter.lawful _ (view c.args.pass.now.pass) c.args.pass.now.takes)

pub another-requires-clause-rule : goal.another-requires-clause-rule
another-requires-clause-rule g c = let v = view c.pop_as.new.pass in notes g.T.Letter.lawful _ v (after_empty v) refl refl refl refl refl
