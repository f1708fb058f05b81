use Rattle.px_server.proofs.Ending.{run_ends}
use Rattle.px_server.proofs.Taping.{cause_stays, numbered, tape_is}
use Rattle.px_server.proofs.closing.ended.Goals as goal

pub close_with-core-requires-clause-seats : goal.close_with-core-requires-clause-seats
close_with-core-requires-clause-seats g c = c.requires.seats

pub close_with-core-requires-clause-sinks : goal.close_with-core-requires-clause-sinks
close_with-core-requires-clause-sinks g c = c.requires.sinks

pub close_with-core-requires-clause-boxes : goal.close_with-core-requires-clause-boxes
close_with-core-requires-clause-boxes g c = c.requires.boxes

pub close_with-core-requires-clause-none : goal.close_with-core-requires-clause-none
close_with-core-requires-clause-none g c = c.requires.none

pub close_with-core-requires-clause-room : goal.close_with-core-requires-clause-room
close_with-core-requires-clause-room g c = c.requires.room

pub close_with-core-requires-clause-no_turns : goal.close_with-core-requires-clause-no_turns
close_with-core-requires-clause-no_turns g c = c.requires.no_turns

pub close_with-core-requires-clause-turns_room : goal.close_with-core-requires-clause-turns_room
close_with-core-requires-clause-turns_room g c = c.requires.turns_room

pub returns-clause-tape : goal.returns-clause-tape
returns-clause-tape g c =
    let numbers =
    numbered g.L.Seats.began (g.H.C.Recorder.visible c.close_with-core.result.recorder) g.H.D.Device.now g.H.R.Recorder.visible g.H.R.Recorder.faults g.H.R.Recorder.fulls
    0 c.requires.sinks.0 c.args.idle.items c.close_with-core.new.lanes.items c.close_with-core.ensures.parts c.requires.sinks.1 in
    tape_is g.H.R.Recorder.visible c.args.taped c.args.idle.items c.close_with-core.new.turns.items c.close_with-core.new.lanes.items c.woven-tape.result.0
    c.woven-tape.result.1 c.close_with-core.result.fault c.close_with-core.result.sink_fault c.decided.result
    c.requires.taping c.close_with-core.ensures.turns numbers c.woven-tape.ensures.none c.woven-tape.ensures.turns c.woven-tape.ensures.sinks c.woven-tape.ensures.whole c.decided.ensures

pub returns-clause-ends : goal.returns-clause-ends
returns-clause-ends g c = λ before after cause.
    let core = c.close_with-core.result in
    run_ends g.H.D.Device.now g.H.R.Recorder.visible g.H.R.Recorder.faults g.H.R.Recorder.fulls g.H.C.Recorder.visible g.H.C.Recorder.faults g.H.C.Recorder.fulls
    g.L.Seats.began c.args.idle.items before after
    c.woven-tape.result.1 core.fault core.sink_fault c.decided.result c.close_with-core.new.lanes.items core.recorder
    c.close_with-core.ensures.parts c.close_with-core.ensures.sink_fault
    (cause_stays before after c.args.stop c.woven-tape.result.1 c.woven-tape.ensures.stop cause) c.close_with-core.ensures.caused c.decided.ensures
