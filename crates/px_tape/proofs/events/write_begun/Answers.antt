use Rattle.std.specs.List.{flat_map}
use Rattle.std.proofs.lemmas.Result.{err_from_is_err_and, on_ok_weaker, on_err_weaker}
use Rattle.px_session.specs.Spelling.{header, event}
use Rattle.px_session.proofs.Added.{both_added}
use Rattle.px_tape.proofs.Written.{all_fit, header_fits, longer, behind}
use Rattle.px_tape.specs.Tape.{form}
use Rattle.px_tape.proofs.events.write_begun.Goals as goal

pub write_header-requires : goal.write_header-requires
write_header-requires g c = header_fits c.args.header.now c.requires.header

pub write_events-requires : goal.write_events-requires
write_events-requires g c = all_fit c.args.events.now c.requires.events

pub returns-in_err-write_header-clause-err : goal.returns-in_err-write_header-clause-err
returns-in_err-write_header-clause-err g c =
    let p = err_from_is_err_and c.from_residual.result c.from_residual.ensures.1 in
    rw (p.1) (longer (header form c.args.header.now) (flat_map (event form) c.args.events.now) (g.K.Sink.held c.args.out.now) _ c.in_err-write_header.ensures.err)

pub returns-clause-ok : goal.returns-clause-ok
returns-clause-ok g c = on_ok_weaker c.write_events.result (both_added (header form c.args.header.now) (flat_map (event form) c.args.events.now) (g.K.Sink.held c.args.out.now) _ _ c.in_ok-write_header.ensures.ok) c.write_events.ensures.ok

pub returns-clause-err : goal.returns-clause-err
returns-clause-err g c = on_err_weaker c.write_events.result (behind (header form c.args.header.now) (flat_map (event form) c.args.events.now) (g.K.Sink.held c.args.out.now) _ _ c.in_ok-write_header.ensures.ok) c.write_events.ensures.err
