use Rattle.std.proofs.Common.{arith, take}
use Rattle.std.proofs.lemmas.Result.{err_from_is_err_and}
use Rattle.px_frame.proofs.PiecesLemmas.{nothing-read, error-at, next-so-far, joined, all-read}
use Rattle.px_frame.proofs.pieces.feed_all.Goals as goal

pub returns-in_err-all : goal.returns-in_err-all
returns-in_err-all g c =
    let p = err_from_is_err_and c.from_residual.result c.from_residual.ensures.1 in
    rw (p.1, p.2)
    (error-at c.more.new.decoder c.args.pieces.now c.loop-piece.piece-index _ c.in_err-all.field-0.0 (omega arith)
    (c.in_err-all.ensures (joined (take c.loop-piece.piece-index c.args.pieces.now)) c.loop-piece.invariant.fed c.loop-piece.invariant.read))

pub loop-piece-preserved : goal.loop-piece-preserved
loop-piece-preserved g c =
    let so-far = next-so-far c.more.new.decoder c.args.pieces.now c.loop-piece.piece-index _ c.in_ok-all.all (omega arith)
    (c.in_ok-all.ensures (joined (take c.loop-piece.piece-index c.args.pieces.now)) c.loop-piece.invariant.fed c.loop-piece.invariant.read) in
    record { fed = so-far.0; read = so-far.1 }

pub loop-piece-init : goal.loop-piece-init
loop-piece-init g c = record { fed = rw c.new-all.ensures c.requires; read = rw c.new-all.ensures nothing-read }

pub returns : goal.returns
returns g c = all-read c.args.pieces.now c.loop-piece.piece-index c.loop-piece.all (omega arith) c.loop-piece.invariant.read
