use Rattle.std.proofs.Common.{◌≡◌, take}
use Rattle.std.specs.List.{sum_by}
use Rattle.px_lane.specs.Inputs.{inputs_of}
use Rattle.px_lane.specs.Needed.{needed_by_input}
use Rattle.px_lane.proofs.memory.needed_by_inputs.Given as goal

abbrev pub invariant-loop-input : goal.invariant-loop-input
invariant-loop-input l = l.notices ≡ sum_by needed_by_input (inputs_of (take l.input-index l.inputs))
