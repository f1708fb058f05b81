use Rattle.std.proofs.Common.{◌≡◌, ◌+◌, ◌≤◌, List, Option, length, map}
use Rattle.std.specs.Prelude.{vec_len, vec_capacity}
use Rattle.std.specs.Option.{option_or}
use Rattle.px_annals.specs.declared.entry.CoreEntry.{CoreEntry}
use Rattle.px_annals.specs.declared.stream.PlainStream.{PlainStream}
use Rattle.px_state.specs.State.{State}
use Rattle.px_core_cell.specs.Boxes.{boxes_of}
use Rattle.px_server.specs.Parts.{unworked, AreAgreed}
use Rattle.px_server.specs.Serving.{first_met}
use Rattle.px_server.specs.Taped.{AreTaping, AreTurnsOf}
use Rattle.px_server.specs.Mailboxes.{boxes_in}
use Rattle.px_server.proofs.Parts.{Handed}
use Rattle.px_server.proofs.left.close_all.Given as goal

abbrev pub invariant-loop-sink : goal.invariant-loop-sink
invariant-loop-sink g l = record {
  room : vec_len l.lanes + length l.idle.items ≤ vec_capacity l.lanes;
  turns_room : vec_len l.turns + length l.idle.items ≤ vec_capacity l.turns;
  turns : AreTaping l.fn.idle.items → AreTaping l.idle.items × AreTurnsOf g.E.Recorder.visible l.lanes.items l.turns.items;
  boxes : map boxes_in l.idle.items ≡ map boxes_of l.ends.items;
  sink_fault : option_or l.first (first_met (map unworked l.idle.items)) ≡ first_met (map unworked l.fn.idle.items);
  parts : (began : State PlainStream) (core : Option (List CoreEntry)) → AreAgreed began core l.fn.idle.items l.fn.ends.items
      → AreAgreed began core l.idle.items l.ends.items
      × Handed began core g.D.Device.now g.E.Recorder.visible g.E.Recorder.faults g.E.Recorder.fulls l.fn.idle.items l.idle.items l.lanes.items;
}

-- how many are left
abbrev pub decreases-loop-sink : goal.decreases-loop-sink
decreases-loop-sink g l = length l.idle.items
