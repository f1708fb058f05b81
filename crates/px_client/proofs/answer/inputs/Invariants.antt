use Rattle.std.proofs.Common.{◌≡◌, ◌-◌}
use Rattle.px_client.specs.Answers.{inputs_at}
use Rattle.px_client.proofs.Read.{behind}
use Rattle.px_client.proofs.answer.inputs.Given as goal

-- the inputs so far, and those to come
abbrev pub invariant-loop : goal.invariant-loop
invariant-loop l = behind l.inputs (inputs_at (l.most - l.counter) l.reader) ≡ inputs_at l.most l.fn.reader
