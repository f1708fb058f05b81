use Rattle.px_core_cell.specs.Step.{IsAsked}
use Rattle.tests_core_cell.proofs.tests.threads.is_made.Given as goal

-- the step is still one that can be asked for
abbrev pub invariant-loop : goal.invariant-loop
invariant-loop g l = IsAsked l.next
