use Rattle.std.proofs.Common.{rules, ◌≡◌, List, Option, sym, ap, subst}
use Rattle.crossbeam_queue.specs.Passes.{view}
use Rattle.px_mail.specs.declared.step.Account.{Account}
use Rattle.px_mail.specs.Mailbox.{unkeyed, IsLawful}
use Rattle.px_mail.proofs.Deliveries.{opens, makes_post, makes_take}
use Rattle.px_mail.proofs.mailbox.made.Goals as goal

pub ruled-requires-clause-rule : goal.ruled-requires-clause-rule
ruled-requires-clause-rule g c = opens g.T.Letter.lawful

pub another-post-requires-clause-rule : goal.another-post-requires-clause-rule
another-post-requires-clause-rule g c =
    let fresh : view c.in_ok-queue.maker ≡ unkeyed = search rules in
    makes_post
    g.T.Letter.lawful
    _
    (view c.in_ok-queue.maker)
    g.B.Keyed.picked
    (ap (λ (w : Account g.row.T.Denot g.row.T-Key.Denot). w.posts) fresh)
    (ap (λ (w : Account g.row.T.Denot g.row.T-Key.Denot). w.takes) fresh)
    (subst (λ (y : Option g.row.T-Key.Denot × List g.row.T.Denot). IsLawful g.T.Letter.lawful y.0 y.1)
    (λ i. (sym c.requires i, ap (λ (w : Account g.row.T.Denot g.row.T-Key.Denot). w.posted) (sym fresh) i)) (g.T.Letter.begins c.args.key))

pub another-take-requires-clause-rule : goal.another-take-requires-clause-rule
another-take-requires-clause-rule g c =
    makes_take
    g.T.Letter.lawful
    _
    (view c.another-post.new.pass)
    (ap (λ (w : Account g.row.T.Denot g.row.T-Key.Denot). w.posts) c.another-post.ensures.rule.0)
    (ap (λ (w : Account g.row.T.Denot g.row.T-Key.Denot). w.takes) c.another-post.ensures.rule.0)
