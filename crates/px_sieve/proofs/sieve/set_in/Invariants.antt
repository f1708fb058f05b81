use Rattle.std.proofs.Common.{◌≡◌, ◌++◌, map, take, drop}
use Rattle.px_sieve.specs.Standing.{line_set}
use Rattle.px_sieve.proofs.sieve.set_in.Given as goal

abbrev pub invariant-loop-line : goal.invariant-loop-line
invariant-loop-line l = l.lines ≡ map (line_set l.conn l.on) (take l.line-index l.fn.lines) ++ drop l.line-index l.fn.lines
