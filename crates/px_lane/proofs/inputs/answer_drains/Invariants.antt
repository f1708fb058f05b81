use Rattle.std.proofs.Common.{◌≡◌, ◌≤◌, ◌++◌, length}
use Rattle.px_lane.specs.Asked.{drained, drained_notices}
use Rattle.px_lane.specs.Inputs.{input_of}
use Rattle.px_lane.proofs.inputs.answer_drains.Given as goal

abbrev pub invariant-loop-tag : goal.invariant-loop-tag
invariant-loop-tag l = record {
  stream : drained l.input.stream.stream ≡ drained l.fn.input.stream.stream;
  index : l.input.index ≡ l.fn.input.index;
  noticed : l.out.notices ++ drained_notices (input_of l.input) ≡ l.fn.out.notices ++ drained_notices (input_of l.fn.input);
  room : l.fn.input.stream.room ≤ l.input.stream.room;
  block_room : l.fn.input.stream.block_room ≤ l.input.stream.block_room;
  capacity : l.out.capacity ≡ l.fn.out.capacity;
}

abbrev pub decreases-loop-tag : goal.decreases-loop-tag
decreases-loop-tag l = length l.input.stream.stream.draining
