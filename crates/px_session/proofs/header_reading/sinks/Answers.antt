use Rattle.std.proofs.Common.{[]}
use Rattle.std.proofs.lemmas.Result.{err_from_is_err_and}
use Rattle.px_session.specs.HeaderReading.{more_at, sink_at}
use Rattle.px_session.specs.Seen.{place_of}
use Rattle.px_session.proofs.More.{goes_on, ends, is_done}
use Rattle.px_session.proofs.header_reading.sinks.Goals as goal

pub returns-in_err-sink : goal.returns-in_err-sink
returns-in_err-sink c =
    let p = err_from_is_err_and c.from_residual.result c.from_residual.ensures.1 in
    rw (p.1, p.2) (ends c.in_err-sink.field-0.0 sink_at c.loop.sinks.items c.args.count c.loop.counter (place_of c.loop.place) (more_at sink_at [] c.args.count (place_of c.args.place.now)) c.loop-test.true (rw c.deref.ensures.value at c.in_err-sink.ensures) c.loop.invariant)

pub loop-preserved : goal.loop-preserved
loop-preserved c = rw c.in_ok-push.ensures.items (goes_on sink_at c.loop.sinks.items c.args.count c.loop.counter (place_of c.loop.place) c.in_ok-sink.sink (place_of c.sink.new.place) (more_at sink_at [] c.args.count (place_of c.args.place.now)) c.loop-test.true (rw c.deref.ensures.value at c.in_ok-sink.ensures) c.loop.invariant)

pub returns : goal.returns
returns c = is_done sink_at c.loop.sinks.items c.args.count c.loop.counter (place_of c.loop.place) (more_at sink_at [] c.args.count (place_of c.args.place.now)) c.loop-test.false c.loop.invariant
