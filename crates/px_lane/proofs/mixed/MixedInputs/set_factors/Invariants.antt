use Rattle.std.proofs.Common.{◌≡◌, ℕ, ◌+◌, ◌*◌, ◌≤◌, drop, map}
use Rattle.px_model.specs.Turn.{with_each_factors}
use Rattle.px_msg.specs.View.{gains}
use Rattle.px_lane.specs.Taking.{AreFed}
use Rattle.px_lane.specs.Costs.{count_others}
use Rattle.px_lane.proofs.mixed.MixedInputs.set_factors.Given as goal

abbrev pub invariant-loop-i : goal.invariant-loop-i
invariant-loop-i g l = record {
  inputs : with_each_factors (map gains (drop l.i l.each)) l.self.inputs ≡ with_each_factors (map gains l.each) l.fn.self.inputs;
  fed : (channels : ℕ) → AreFed channels l.fn.self.inputs → AreFed channels l.self.inputs;
  count : l.count + count_others (map gains (drop l.i l.each)) l.self.inputs ≡ count_others (map gains l.each) l.fn.self.inputs;
  few : l.count ≤ l.i;
  none : l.count ≡ 0 → l.self.inputs ≡ l.fn.self.inputs;
  spec : l.self.spec ≡ l.fn.self.spec;
  depth : l.self.depth ≡ l.fn.self.depth;
  frames : l.self.frames ≡ l.fn.self.frames;
  room : l.self.room ≡ l.fn.self.room;
  block_room : l.self.block_room ≡ l.fn.self.block_room;
  ticks : l.steps ≤ l.fn.steps + l.fn.self.spec.channels * (4 * (l.fn.self.frames * l.count));
}
