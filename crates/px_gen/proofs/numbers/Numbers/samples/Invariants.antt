use Rattle.std.proofs.Common.{◌≡◌}
use Rattle.px_gen.specs.Numbers.{state_after, samples}
use Rattle.px_gen.proofs.numbers.Numbers.samples.Given as goal

-- the samples so far, and the state behind their numbers
abbrev pub invariant-loop : goal.invariant-loop
invariant-loop l = record {
  bytes : l.bytes.items ≡ samples l.counter l.fn.self.state;
  state : l.self.state ≡ state_after l.counter l.fn.self.state;
}
