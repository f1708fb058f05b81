use Rattle.std.proofs.Common.{refl}
use Rattle.px_frame.specs.Meaning.{frames_in}
use Rattle.px_sieve.proofs.Hearing.{hears-more}
use Rattle.px_sieve.proofs.line.hear.Goals as goal

pub returns-clause-hears : goal.returns-clause-hears
returns-clause-hears g c = λ h hears.
    hears-more c.args.line.now
    (record { conn = c.args.line.now.conn; decoder = c.feed-given.new.self; rest = c.add_given.new.rest; waiting = c.add_given.new.waiting; let_in = c.args.line.now.let_in })
    h c.args.bytes.now hears refl refl c.feed-given.result
    (c.feed-given.ensures.answers h.received (frames_in h.received) hears.fed)
    (c.feed-given.ensures.leaves h.received (frames_in h.received) hears.fed)
    c.in_ok-add_given.ensures.adds
