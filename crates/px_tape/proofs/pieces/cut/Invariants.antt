use Rattle.std.proofs.Common.{◌≡◌, ◌++◌, length}
use Rattle.px_tape.specs.Tape.{ArePieces, all_bytes}
use Rattle.px_tape.proofs.pieces.cut.Given as goal

-- the events so far and the bytes that are left are all of them
abbrev pub invariant-loop-rest : goal.invariant-loop-rest
invariant-loop-rest l = record {
  pieces : ArePieces l.conn l.events;
  bytes : all_bytes l.events ++ l.rest ≡ l.bytes;
}

abbrev pub decreases-loop-rest : goal.decreases-loop-rest
decreases-loop-rest l = length l.rest
