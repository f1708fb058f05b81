use Rattle.std.proofs.Common.{◌≡◌, take}
use Rattle.std.specs.List.{flat_map}
use Rattle.px_ends.specs.Visible.{after_adding}
use Rattle.px_session.proofs.writer.write_pieces.Given as goal

-- the pieces so far were added, and no write has failed
abbrev pub invariant-loop-piece : goal.invariant-loop-piece
invariant-loop-piece g l = record {
  added : g.K.Sink.held l.out ≡ after_adding (g.K.Sink.held l.fn.out) (flat_map (λ piece. piece.now) (take l.piece-index l.pieces));
  sound : g.K.Sink.faults l.out ≡ g.K.Sink.faults l.fn.out;
}
