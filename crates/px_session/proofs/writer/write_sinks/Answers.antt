use Rattle.std.proofs.Common.{◌≡◌, ◌++◌, take, drop, suc, sym, subst}
use Rattle.std.specs.List.{flat_map}
use Rattle.std.proofs.lemmas.Result.{err_from_is_err_and}
use Rattle.px_header.specs.declared.header.SinkSpec.{SinkSpec}
use Rattle.px_session.specs.Spelling.{sink}
use Rattle.px_session.proofs.Added.{front_then, flat_map_around}
use Rattle.px_session.proofs.writer.write_sinks.Goals as goal

pub returns-in_err-write_sink-clause-err : goal.returns-in_err-write_sink-clause-err
returns-in_err-write_sink-clause-err g c =
    let i = c.loop-s.s-index in
    let sinks = c.args.sinks.now in
    let this = c.s-item.result in
    let done = flat_map sink (take i sinks) in
    let more = flat_map sink (drop (suc i) sinks) in
    let whole = λ (s : SinkSpec). flat_map sink sinks ≡ done ++ (sink s ++ more) in
    let p = err_from_is_err_and c.from_residual.result c.from_residual.ensures.1 in
    rw (p.1) (front_then done (sink this) more (flat_map sink sinks) (g.K.Sink.held c.args.out.now) _ _ c.loop-s.invariant.added c.in_err-write_sink.ensures.err (subst whole (sym c.s-item.is) (flat_map_around sink sinks i this c.loop-s-test.true)))
