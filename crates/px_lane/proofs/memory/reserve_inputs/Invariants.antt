use Rattle.std.proofs.Common.{◌≡◌, ℕ, take}
use Rattle.std.specs.List.{AllByRecursion}
use Rattle.px_lane.specs.Inputs.{inputs_of, HasRoom}
use Rattle.px_lane.proofs.memory.reserve_inputs.Given as goal

abbrev pub invariant-loop-input : goal.invariant-loop-input
invariant-loop-input l =
    (inputs_of l.inputs ≡ inputs_of l.fn.inputs)
    × ((old held : ℕ) → AllByRecursion (HasRoom old held) l.fn.inputs → AllByRecursion (HasRoom old held) l.inputs)
    × AllByRecursion (HasRoom l.room l.blocks) (take l.input-index l.inputs)
