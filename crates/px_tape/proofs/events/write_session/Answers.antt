use Rattle.std.proofs.Common.{◌∷◌, []}
use Rattle.std.proofs.lemmas.Result.{err_from_is_err_and, on_ok_weaker, on_err_weaker}
use Rattle.px_session.specs.Spelling.{end_byte}
use Rattle.px_session.proofs.Added.{both_added}
use Rattle.px_tape.specs.Tape.{begun}
use Rattle.px_tape.proofs.Written.{longer, behind}
use Rattle.px_tape.proofs.events.write_session.Goals as goal

pub returns-in_err-write_begun-clause-err : goal.returns-in_err-write_begun-clause-err
returns-in_err-write_begun-clause-err g c =
    let p = err_from_is_err_and c.from_residual.result c.from_residual.ensures.1 in
    rw (p.1) (longer (begun c.args.header.now c.args.events.now) (end_byte ∷ []) (g.K.Sink.held c.args.out.now) _ c.in_err-write_begun.ensures.err)

pub returns-clause-ok : goal.returns-clause-ok
returns-clause-ok g c = on_ok_weaker c.write_end.result (both_added (begun c.args.header.now c.args.events.now) (end_byte ∷ []) (g.K.Sink.held c.args.out.now) _ _ c.in_ok-write_begun.ensures.ok) c.write_end.ensures.ok

pub returns-clause-err : goal.returns-clause-err
returns-clause-err g c = on_err_weaker c.write_end.result (behind (begun c.args.header.now c.args.events.now) (end_byte ∷ []) (g.K.Sink.held c.args.out.now) _ _ c.in_ok-write_begun.ensures.ok) c.write_end.ensures.err
