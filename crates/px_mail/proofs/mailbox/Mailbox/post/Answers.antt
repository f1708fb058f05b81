use Rattle.std.proofs.Common.{refl}
use Rattle.crossbeam_queue.specs.Passes.{view}
use Rattle.px_mail.specs.Mailbox.{after_full}
use Rattle.px_mail.proofs.Deliveries.{posts, fills, notes}
use Rattle.px_mail.proofs.mailbox.Mailbox.post.Goals as goal

pub push_as-requires-clause-rule : goal.push_as-requires-clause-rule
push_as-requires-clause-rule g c =
    (posts g.T.Letter.lawful _ _ (view c.args.pass.now.pass) c.args.item c.args.pass.now.posts c.requires.lawful, fills g.T.Letter.lawful _ (view c.args.pass.now.pass) c.args.pass.now.posts)

pub another-requires-clause-rule : goal.another-requires-clause-rule
another-requires-clause-rule g c = let v = view c.push_as.new.pass in notes g.T.Letter.lawful _ v (after_full v) refl refl refl refl refl
