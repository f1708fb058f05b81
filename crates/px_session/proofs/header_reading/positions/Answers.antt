use Rattle.std.proofs.Common.{[]}
use Rattle.std.proofs.lemmas.Result.{err_from_is_err_and}
use Rattle.px_session.specs.HeaderReading.{more_at, position_at}
use Rattle.px_session.specs.Seen.{place_of}
use Rattle.px_session.proofs.More.{goes_on, ends, is_done}
use Rattle.px_session.proofs.header_reading.positions.Goals as goal

pub returns-in_err-position : goal.returns-in_err-position
returns-in_err-position c =
    let p = err_from_is_err_and c.from_residual.result c.from_residual.ensures.1 in
    rw (p.1, p.2) (ends c.in_err-position.field-0.0 position_at c.loop.positions.items c.args.count c.loop.counter (place_of c.loop.rest) (more_at position_at [] c.args.count (place_of c.args.place)) c.loop-test.true c.in_err-position.ensures c.loop.invariant)

pub loop-preserved : goal.loop-preserved
loop-preserved c = rw c.in_ok-push.ensures.items (goes_on position_at c.loop.positions.items c.args.count c.loop.counter (place_of c.loop.rest) c.in_ok-position.position (place_of c.in_ok-position.after) (more_at position_at [] c.args.count (place_of c.args.place)) c.loop-test.true c.in_ok-position.ensures c.loop.invariant)

pub returns : goal.returns
returns c = is_done position_at c.loop.positions.items c.args.count c.loop.counter (place_of c.loop.rest) (more_at position_at [] c.args.count (place_of c.args.place)) c.loop-test.false c.loop.invariant
