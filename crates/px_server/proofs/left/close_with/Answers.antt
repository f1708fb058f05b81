use Rattle.std.proofs.Common.{◌∙◌, ap, map, sym, subst}
use Rattle.px_core_cell.specs.Boxes.{boxes_of}
use Rattle.px_core_cell.specs.Cause.{IsCaused}
use Rattle.px_core_cell.specs.Cell.{cell_of}
use Rattle.px_server.specs.Parts.{AreAgreed}
use Rattle.px_server.specs.Mailboxes.{boxes_in}
use Rattle.px_server.proofs.Delivering.{all_agreed, same_count}
use Rattle.px_server.proofs.Ending.{replay_agreed}
use Rattle.px_server.proofs.left.close_with.Goals as goal

pub close_all-sink_fault-requires-clause-boxes : goal.close_all-sink_fault-requires-clause-boxes
close_all-sink_fault-requires-clause-boxes g c = c.requires.boxes ∙ sym (ap (λ (e : _). map boxes_of e.items) c.without_core-log.ensures.ends ∙ c.into_core.ensures.boxes)

pub close_all-sink_fault-requires-clause-none : goal.close_all-sink_fault-requires-clause-none
close_all-sink_fault-requires-clause-none g c = c.requires.none

pub close_all-sink_fault-requires-clause-room : goal.close_all-sink_fault-requires-clause-room
close_all-sink_fault-requires-clause-room g c = c.requires.room

pub close_all-sink_fault-requires-clause-no_turns : goal.close_all-sink_fault-requires-clause-no_turns
close_all-sink_fault-requires-clause-no_turns g c = c.requires.no_turns

pub close_all-sink_fault-requires-clause-turns_room : goal.close_all-sink_fault-requires-clause-turns_room
close_all-sink_fault-requires-clause-turns_room g c = c.requires.turns_room

pub returns-clause-turns : goal.returns-clause-turns
returns-clause-turns g c = c.close_all-sink_fault.ensures.turns

pub returns-clause-sink_fault : goal.returns-clause-sink_fault
returns-clause-sink_fault g c = c.close_all-sink_fault.ensures.sink_fault

pub returns-clause-parts : goal.returns-clause-parts
returns-clause-parts g c =
    let idle = c.args.idle.now.items in
    let core = c.into_core.result in
    let log = c.without_core-log.result.0 in
    let ends = c.without_core-log.result.1 in
    let recorded = g.C.Recorder.visible core.log.recorder in
    let boxes = c.requires.boxes ∙ sym c.into_core.ensures.boxes in
    let visible : AreAgreed g.L.Seats.began recorded idle core.ends.items =
    all_agreed g.L.Seats.began recorded 0 idle core.ends.items c.requires.sinks.0 c.requires.sinks.1 (same_count boxes_in boxes_of idle core.ends.items boxes)
    (replay_agreed g.L.Seats.began (cell_of core) recorded c.into_core.ensures.history.replay) in
    c.close_all-sink_fault.ensures.parts g.L.Seats.began (g.C.Recorder.visible log.recorder)
    (subst (λ (e : _). AreAgreed g.L.Seats.began (g.C.Recorder.visible log.recorder) idle e.items) (sym c.without_core-log.ensures.ends)
    (subst (λ (l : _). AreAgreed g.L.Seats.began (g.C.Recorder.visible l.recorder) idle core.ends.items) (sym c.without_core-log.ensures.log) visible))

pub returns-clause-caused : goal.returns-clause-caused
returns-clause-caused g c = subst (λ (l : _). IsCaused l.fault (g.C.Recorder.faults l.recorder) (g.C.Recorder.fulls l.recorder)) (sym c.without_core-log.ensures.log) c.into_core.ensures.caused
