use Rattle.std.proofs.Common.{}
use Rattle.std.proofs.lemmas.Result.{err_from_is_err_and, on_ok_weaker, on_err_weaker}
use Rattle.px_session.proofs.Added.{header_added, header_stopped, sinks_stopped}
use Rattle.px_session.proofs.writer.write_header.Goals as goal

pub returns-in_err-write_pieces-clause-err : goal.returns-in_err-write_pieces-clause-err
returns-in_err-write_pieces-clause-err g c =
    let p = err_from_is_err_and c.from_residual.result c.from_residual.ensures.1 in
    rw (p.1) (header_stopped c.args.form c.args.header.now _ _ _ c.first_word-word.ensures c.as_slice.ensures c.len-count.ensures _ _ c.in_err-write_pieces.ensures.err)

pub returns-clause-ok : goal.returns-clause-ok
returns-clause-ok g c = on_ok_weaker c.write_sinks.result (header_added c.args.form c.args.header.now _ _ _ c.first_word-word.ensures c.as_slice.ensures c.len-count.ensures _ _ _ _ c.as_slice-2.ensures c.in_ok-write_pieces.ensures.ok) c.write_sinks.ensures.ok

pub returns-clause-err : goal.returns-clause-err
returns-clause-err g c = on_err_weaker c.write_sinks.result (sinks_stopped c.args.form c.args.header.now _ _ _ c.first_word-word.ensures c.as_slice.ensures c.len-count.ensures _ _ _ _ c.as_slice-2.ensures c.in_ok-write_pieces.ensures.ok) c.write_sinks.ensures.err
