use Rattle.std.proofs.Common.{arith, option_map}
use Rattle.px_server.proofs.Ending.{few_begin, unserved_is, served_since}
use Rattle.px_server.proofs.Taping.{untaped}
use Rattle.px_server.proofs.call.serve_within.Goals as goal

pub serve_made-requires-clause-room : goal.serve_made-requires-clause-room
serve_made-requires-clause-room g c κs within =
    let few = few_begin c.args.header.now.sinks c.make_outside.new.idle.items c.make_outside.ensures.front in omega (arith, few, c.requires.room)

pub serve_made-requires-clause-turns_room : goal.serve_made-requires-clause-turns_room
serve_made-requires-clause-turns_room g c κs within =
    let few = few_begin c.args.header.now.sinks c.make_outside.new.idle.items c.make_outside.ensures.front in omega (arith, few, c.requires.turns_room)

pub unserved-requires-clause-room : goal.unserved-requires-clause-room
unserved-requires-clause-room g c κs within =
    let few = few_begin c.args.header.now.sinks c.make_outside.new.idle.items c.make_outside.ensures.front in omega (arith, few, c.requires.room)

pub returns-in-Ok-clause-served : goal.returns-in-Ok-clause-served
returns-in-Ok-clause-served g c =
    served_since g.H.D.Device.now g.H.R.Recorder.visible g.H.R.Recorder.faults g.H.R.Recorder.fulls g.H.C.Recorder.visible g.H.C.Recorder.faults g.H.C.Recorder.fulls
    (option_map (λ name. name.now) c.args.source) c.args.header.now (g.H.Host.now c.args.host.now) (g.H.Host.now c.make_outside.new.host) (g.H.Host.now c.serve_made.new.host)
    c.serve_made.result.status c.serve_made.result.lanes.items c.serve_made.result.core c.make_outside.ensures.later c.in-Ok.ensures.calm c.serve_made.ensures.served

pub returns-in-Ok-clause-tape : goal.returns-in-Ok-clause-tape
returns-in-Ok-clause-tape g c = c.serve_made.ensures.tape

pub returns-in-Err-clause-served : goal.returns-in-Err-clause-served
returns-in-Err-clause-served g c =
    unserved_is g.H.D.Device.now g.H.R.Recorder.visible g.H.R.Recorder.faults g.H.R.Recorder.fulls g.H.C.Recorder.visible g.H.C.Recorder.faults g.H.C.Recorder.fulls
    (option_map (λ name. name.now) c.args.source) c.args.header.now c.make_outside.new.idle.items (g.H.Host.now c.args.host.now) (g.H.Host.now c.make_outside.new.host) c.in-Err.stop
    c.unserved.result.status c.unserved.result.lanes.items c.unserved.result.core
    c.make_outside.ensures.front c.make_outside.ensures.later c.make_outside.ensures.lent c.in-Err.ensures.cause
    c.unserved.ensures.status c.unserved.ensures.lanes c.unserved.ensures.core

pub returns-in-Err-clause-tape : goal.returns-in-Err-clause-tape
returns-in-Err-clause-tape g c =
    untaped g.H.R.Recorder.visible c.args.taped c.unserved.result.status c.unserved.result.lanes.items c.unserved.result.tape c.in-Err.stop c.unserved.ensures.status c.unserved.ensures.tape
