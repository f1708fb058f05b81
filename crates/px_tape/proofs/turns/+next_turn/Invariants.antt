use Rattle.std.proofs.Common.{length}
use Rattle.px_tape.proofs.turns.+next_turn.Given as goal

-- how many sinks are left
abbrev pub decreases-next_turn : goal.decreases-next_turn
decreases-next_turn l = length l.turns.now
