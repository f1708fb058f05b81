use Rattle.std.proofs.Common.{◌+◌, ◌≤◌, None, length}
use Rattle.std.specs.Prelude.{vec_len, vec_capacity}
use Rattle.px_annals.specs.declared.stream.PlainStream.{PlainStream}
use Rattle.px_state.specs.State.{State}
use Rattle.px_server.proofs.Parts.{Handed}
use Rattle.px_server.proofs.left.hand_back.Given as goal

abbrev pub invariant-loop-sink : goal.invariant-loop-sink
invariant-loop-sink g l = record {
  room : vec_len l.lanes + length l.idle.items ≤ vec_capacity l.lanes;
  parts : (began : State PlainStream) → Handed began None g.D.Device.now g.E.Recorder.visible g.E.Recorder.faults g.E.Recorder.fulls l.fn.idle.items l.idle.items l.lanes.items;
}

-- how many are left
abbrev pub decreases-loop-sink : goal.decreases-loop-sink
decreases-loop-sink g l = length l.idle.items
