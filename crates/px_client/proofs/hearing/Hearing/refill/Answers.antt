use Rattle.std.proofs.lemmas.Result.{err_from_is_err_and}
use Rattle.px_client.proofs.Loops.{counts_none, refill_faulty, refill_full, refill_none}
use Rattle.px_client.proofs.hearing.Hearing.refill.Goals as goal

pub returns-in-Some-clause-hears : goal.returns-in-Some-clause-hears
returns-in-Some-clause-hears g c = refill_faulty c.args.self.now c.requires.all (g.L.Link.left c.args.link.now) c.in-Some.field-0-0 c.in-Some.at c.in-Some.is

pub returns-then-self-ge-HEARD_MAX-clause-hears : goal.returns-then-self-ge-HEARD_MAX-clause-hears
returns-then-self-ge-HEARD_MAX-clause-hears g c = refill_full c.args.self.now c.requires.all (g.L.Link.left c.args.link.now) c.in_default.is c.if-self-ge-HEARD_MAX.true

pub returns-in_err-count-clause-hears : goal.returns-in_err-count-clause-hears
returns-in_err-count-clause-hears g c =
    let p = err_from_is_err_and c.from_residual.result c.from_residual.ensures.1 in
    rw (p.1, p.2) (refill_none c.args.self.now c.requires.all (g.L.Link.left c.args.link.now) c.in_err-count.field-0.0 _ (g.L.Link.left c.receive.new.link) c.in_default.is c.in_err-count.ensures.bytes)

pub returns-clause-count : goal.returns-clause-count
returns-clause-count g c = counts_none _ _ c.take.result c.take.ensures.causes c.in_ok-count.ensures.count
