use Rattle.std.proofs.Common.{◌≡◌, ◌≤◌, ◌+◌, ◌++◌, length, map, take, replicate}
use Rattle.px_model.specs.Stream.{Stream}
use Rattle.px_msg.specs.View.{message_of}
use Rattle.px_state.specs.Out.{waiting_for}
use Rattle.px_core.specs.Step.{out, stepped_by}
use Rattle.px_world.proofs.stepping.take_messages.Given as goal

-- the messages so far and those that are left are all of them
abbrev pub invariant-loop-left : goal.invariant-loop-left
invariant-loop-left l = record {
  core : stepped_by Stream.spec l.core.state (replicate l.left (out l.sink)) ≡ stepped_by Stream.spec l.fn.core.state (replicate l.fn.count (out l.sink));
  messages : l.messages.messages ++ map (message_of (λ s. s)) (take l.left (waiting_for l.core.state l.sink))
      ≡ l.fn.messages.messages ++ map (message_of (λ s. s)) (take l.fn.count (waiting_for l.fn.core.state l.sink));
  room : length l.messages.messages + l.left ≤ l.messages.capacity;
  few : l.left ≤ length (waiting_for l.core.state l.sink);
}

abbrev pub decreases-loop-left : goal.decreases-loop-left
decreases-loop-left l = l.left
