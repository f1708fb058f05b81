use Rattle.std.proofs.Common.{take, map}
use Rattle.std.specs.List.{concat}
use Rattle.px_frame.specs.Progress.{HasFed}
use Rattle.px_frame.specs.Reading.{IsRead, Unfinished}
use Rattle.px_frame.proofs.pieces.feed_all.Given as goal

abbrev pub invariant-loop-piece : goal.invariant-loop-piece
invariant-loop-piece g l = record {
  fed : HasFed l.decoder (concat (map (λ piece. piece.now) (take l.piece-index l.pieces))) l.all;
  read : IsRead (concat (map (λ piece. piece.now) (take l.piece-index l.pieces))) l.all Unfinished;
}
