use Rattle.px_frame.proofs.PiecesLemmas.{error-more}
use Rattle.px_frame.proofs.pieces.more.Goals as goal

pub returns-in-Err : goal.returns-in-Err
returns-in-Err g c =
    λ fed there read.
    error-more c.feed.new.self fed c.args.piece.now c.args.all c.in-Err.error c.behind.result read (c.in-Err.ensures.answers fed c.args.all there) c.behind.ensures
