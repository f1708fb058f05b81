use Rattle.std.proofs.Common.{◌≡◌, ℕ, List, ◌++◌, Option}
use Rattle.std.specs.List.{flat_map}
use Rattle.px_session.specs.Spelling.{event}
use Rattle.px_gen.specs.Generator.{form, steps}
use Rattle.px_gen.specs.Writing.{Gathered}
use Rattle.px_gen.proofs.Loops.{state_behind}
use Rattle.px_gen.proofs.generator.write_steps.Given as goal

-- the events of the steps so far were gathered, no write has failed, and the numbers are behind these steps
abbrev pub invariant-loop : goal.invariant-loop
invariant-loop g l = record {
  gathered : (first : Option (List ℕ)) (given : List ℕ) → Gathered given first (g.K.Sink.held l.fn.out) l.fn.pieces.bytes
      → Gathered (given ++ flat_map (event form) (steps l.counter l.fn.numbers.state)) first (g.K.Sink.held l.out) l.pieces.bytes;
  sound : g.K.Sink.faults l.out ≡ g.K.Sink.faults l.fn.out;
  state : l.numbers.state ≡ state_behind l.counter l.fn.numbers.state;
}
