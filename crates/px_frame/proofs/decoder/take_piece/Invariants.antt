use Rattle.std.proofs.Common.{length}
use Rattle.px_frame.specs.Feeding.{Feeds}
use Rattle.px_frame.specs.Stage.{IsPart, held_of}
use Rattle.px_frame.proofs.decoder.take_piece.Given as goal

abbrev pub invariant-loop-rest : goal.invariant-loop-rest
invariant-loop-rest g l = record {
  fed : Feeds l.fn.start (held_of l.fn.part) l.fn.piece l.frames l.start (held_of l.part) l.rest;
  part : IsPart l.part;
}

abbrev pub decreases-loop-rest : goal.decreases-loop-rest
decreases-loop-rest g l = length l.rest
