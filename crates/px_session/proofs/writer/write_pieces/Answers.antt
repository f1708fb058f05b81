use Rattle.std.proofs.Common.{ℕ, List, take, drop, suc, Bor}
use Rattle.std.specs.List.{flat_map}
use Rattle.std.proofs.lemmas.Result.{err_from_is_err_and}
use Rattle.px_session.proofs.Added.{front_then, flat_map_around}
use Rattle.px_session.proofs.writer.write_pieces.Goals as goal

pub returns-in_err-write_all-clause-err : goal.returns-in_err-write_all-clause-err
returns-in_err-write_all-clause-err g c =
    let i = c.loop-piece.piece-index in
    let pieces = c.args.pieces.now in
    let f = λ (piece : Bor (List ℕ)). piece.now in
    let p = err_from_is_err_and c.from_residual.result c.from_residual.ensures.1 in
    rw (p.1) (front_then (flat_map f (take i pieces)) _ (flat_map f (drop (suc i) pieces)) (flat_map f pieces) (g.K.Sink.held c.args.out.now) _ _ c.loop-piece.invariant.added c.in_err-write_all.ensures.err (flat_map_around f pieces i _ c.loop-piece-test.true))
