use Rattle.std.proofs.Common.{refl}
use Rattle.px_workers.proofs.serving.Serving.start_one.Goals as goal

pub start_next-requires-clause-seats : goal.start_next-requires-clause-seats
start_next-requires-clause-seats g c κs within = c.requires.seats

pub start_next-requires-clause-some : goal.start_next-requires-clause-some
start_next-requires-clause-some g c κs within = c.requires.some

pub returns-in_err-ask-clause-starts : goal.returns-in_err-ask-clause-starts
returns-in_err-ask-clause-starts g c = record { parts = refl; clients = refl; all = refl; capacity = refl; later = c.ask.ensures.later; lent = c.ask.ensures.lent }

pub returns-in-Ok-clause-starts : goal.returns-in-Ok-clause-starts
returns-in-Ok-clause-starts g c =
    record { parts = c.start_next.ensures.parts; clients = refl; all = c.start_next.ensures.all; capacity = c.start_next.ensures.capacity; later = c.ask.ensures.later; lent = c.ask.ensures.lent }

pub returns-in-Err-clause-starts : goal.returns-in-Err-clause-starts
returns-in-Err-clause-starts g c =
    record { parts = c.start_next.ensures.parts; clients = refl; all = c.start_next.ensures.all; capacity = c.start_next.ensures.capacity; later = c.ask.ensures.later; lent = c.ask.ensures.lent }
