use Rattle.std.proofs.Common.{◌≡◌, ℕ, ◌≤◌, take, get_or}
use Rattle.px_msg.specs.View.{gains}
use Rattle.px_ramp.specs.declared.ramps.InputRamps.{InputRamps}
use Rattle.px_ramp.specs.Ramp.{with_aim}
use Rattle.px_ramp.proofs.table.aim_one.Given as goal

abbrev pub invariant-loop-item : goal.invariant-loop-item
invariant-loop-item l = record {
  front : take l.item-index l.items ≡ with_aim l.frames l.at (gains l.entry) (take l.item-index l.fn.items);
  rest : (k : ℕ) (d : InputRamps) → l.item-index ≤ k → get_or l.items k d ≡ get_or l.fn.items k d;
}
