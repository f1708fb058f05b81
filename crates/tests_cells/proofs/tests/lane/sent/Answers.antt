use Rattle.px_mail.specs.Mailbox.{key_of, posted_by}
use Rattle.tests_cells.proofs.Gains.{lawful_next}
use Rattle.tests_cells.proofs.tests.lane.sent.Goals as goal

pub post-requires-clause-lawful : goal.post-requires-clause-lawful
post-requires-clause-lawful g c κs within =
    let l = c.loop in lawful_next (key_of l.post.pass) (posted_by l.post.pass) l.message l.invariant.1 l.invariant.2
