use Rattle.std.proofs.Common.{length, arith, ◌∙◌, option_map}
use Rattle.px_workers.specs.declared.stop.Stop.TheVariants.{Memory}
use Rattle.px_server.proofs.Ending.{few_begin, front_all, unserved_is, served_is, served_count}
use Rattle.px_workers.proofs.Later.{later_refl}
use Rattle.px_server.proofs.Lending.{lent_same, lent_less}
use Rattle.px_server.proofs.Making.{starts_made, ends_made, boxes_made, taping_made}
use Rattle.px_server.proofs.Taping.{untaped}
use Rattle.px_server.proofs.call.serve_made.Goals as goal

pub handle_of-requires-clause-header : goal.handle_of-requires-clause-header
handle_of-requires-clause-header g c = c.requires.header

pub handle_of-requires-clause-name : goal.handle_of-requires-clause-name
handle_of-requires-clause-name g c = c.requires.name

pub handle_of-requires-clause-parts : goal.handle_of-requires-clause-parts
handle_of-requires-clause-parts g c = c.requires.parts

pub handle_of-requires-clause-began : goal.handle_of-requires-clause-began
handle_of-requires-clause-began g c = c.requires.began

pub handle_of-requires-clause-boxes : goal.handle_of-requires-clause-boxes
handle_of-requires-clause-boxes g c = c.requires.boxes

pub handle_of-requires-clause-ends : goal.handle_of-requires-clause-ends
handle_of-requires-clause-ends g c = ends_made c.args.taped 0 c.args.header.now.sinks c.args.made.idle.items c.args.made.ends.items c.requires.made

pub handle_of-requires-clause-none : goal.handle_of-requires-clause-none
handle_of-requires-clause-none g c = c.requires.nothing_posted

pub run-requires-clause-none : goal.run-requires-clause-none
run-requires-clause-none g c κs within = c.requires.none

pub run-requires-clause-room : goal.run-requires-clause-room
run-requires-clause-room g c κs within = c.requires.room

pub run-requires-clause-no_turns : goal.run-requires-clause-no_turns
run-requires-clause-no_turns g c κs within = c.requires.no_turns

pub run-requires-clause-turns_room : goal.run-requires-clause-turns_room
run-requires-clause-turns_room g c κs within = c.requires.turns_room

pub run-requires-clause-taping : goal.run-requires-clause-taping
run-requires-clause-taping g c κs within = λ on. taping_made c.args.taped 0 c.args.header.now.sinks c.args.made.idle.items c.args.made.ends.items on c.requires.made

pub run-requires-clause-boxes : goal.run-requires-clause-boxes
run-requires-clause-boxes g c κs within = boxes_made c.args.taped 0 c.args.header.now.sinks c.args.made.idle.items c.args.made.ends.items c.requires.made ∙ c.requires.boxes

pub run-requires-clause-sinks : goal.run-requires-clause-sinks
run-requires-clause-sinks g c κs within = (_, starts_made c.args.taped 0 c.args.header.now.sinks c.args.made.idle.items c.args.made.ends.items c.requires.made)

pub run-requires-clause-few : goal.run-requires-clause-few
run-requires-clause-few g c κs within =
    let sinks = c.args.header.now.sinks in
    let few = few_begin sinks c.args.made.idle.items (front_all sinks c.args.made.idle.items (starts_made c.args.taped 0 c.args.header.now.sinks c.args.made.idle.items c.args.made.ends.items c.requires.made)) in omega (arith, few, c.requires.header.count.1)

pub returns-in-Ok-clause-served : goal.returns-in-Ok-clause-served
returns-in-Ok-clause-served g c =
    let before = g.H.Host.now c.args.host.now in
    let after = g.H.Host.now c.run.new.host in
    served_is g.H.D.Device.now g.H.R.Recorder.visible g.H.R.Recorder.faults g.H.R.Recorder.fulls g.H.C.Recorder.visible g.H.C.Recorder.faults g.H.C.Recorder.fulls
    (option_map (λ name. name.now) c.args.source) c.args.header.now g.L.Seats.began c.args.made.idle.items before after c.run.result.status c.run.result.lanes.items c.run.result.core
    c.requires.began (starts_made c.args.taped 0 c.args.header.now.sinks c.args.made.idle.items c.args.made.ends.items c.requires.made) c.run.ensures.later (lent_same (length c.args.made.idle.items) 1 before after c.run.ensures.lent c.requires.lent) c.run.ensures.core c.run.ensures.ends

pub returns-in-Ok-clause-count : goal.returns-in-Ok-clause-count
returns-in-Ok-clause-count g c = λ some.
    served_count g.H.D.Device.now g.H.R.Recorder.visible g.H.R.Recorder.faults g.H.R.Recorder.fulls g.H.C.Recorder.visible g.H.C.Recorder.faults g.H.C.Recorder.fulls
    (option_map (λ name. name.now) c.args.source) c.args.header.now (g.H.Host.now c.args.host.now) (g.H.Host.now c.run.new.host) c.run.result.status c.run.result.lanes.items c.run.result.core (returns-in-Ok-clause-served g c) some

pub returns-in-Err-clause-served : goal.returns-in-Err-clause-served
returns-in-Err-clause-served g c =
    let before = g.H.Host.now c.args.host.now in
    unserved_is g.H.D.Device.now g.H.R.Recorder.visible g.H.R.Recorder.faults g.H.R.Recorder.fulls g.H.C.Recorder.visible g.H.C.Recorder.faults g.H.C.Recorder.fulls
    (option_map (λ name. name.now) c.args.source) c.args.header.now c.args.made.idle.items before before Memory c.unserved.result.status c.unserved.result.lanes.items c.unserved.result.core
    (front_all c.args.header.now.sinks c.args.made.idle.items (starts_made c.args.taped 0 c.args.header.now.sinks c.args.made.idle.items c.args.made.ends.items c.requires.made)) (later_refl before) (lent_less (length c.args.made.idle.items) before c.requires.lent) tt
    c.unserved.ensures.status c.unserved.ensures.lanes c.unserved.ensures.core

pub returns-in-Err-clause-tape : goal.returns-in-Err-clause-tape
returns-in-Err-clause-tape g c =
    untaped g.H.R.Recorder.visible c.args.taped c.unserved.result.status c.unserved.result.lanes.items c.unserved.result.tape Memory c.unserved.ensures.status c.unserved.ensures.tape
