use Rattle.std.proofs.Common.{option_map}
use Rattle.px_workers.specs.declared.stop.Stop.TheVariants.{Memory}
use Rattle.px_server.proofs.Ending.{front_none, unserved_is}
use Rattle.px_workers.proofs.Later.{later_refl}
use Rattle.px_server.proofs.Lending.{lent_none}
use Rattle.px_server.proofs.Taping.{untaped}
use Rattle.px_server.proofs.call.serve.Goals as goal

pub returns-in-Ok-clause-served : goal.returns-in-Ok-clause-served
returns-in-Ok-clause-served g c = c.serve_within.ensures.served

pub returns-in-Ok-clause-tape : goal.returns-in-Ok-clause-tape
returns-in-Ok-clause-tape g c = c.serve_within.ensures.tape

pub returns-in-Err-clause-served : goal.returns-in-Err-clause-served
returns-in-Err-clause-served g c =
    let before = g.H.Host.now c.args.host.now in
    unserved_is g.H.D.Device.now g.H.R.Recorder.visible g.H.R.Recorder.faults g.H.R.Recorder.fulls g.H.C.Recorder.visible g.H.C.Recorder.faults g.H.C.Recorder.fulls
    (option_map (λ name. name.now) c.args.source) c.args.header.now c.new.result.items before before Memory c.unserved.result.status c.unserved.result.lanes.items c.unserved.result.core
    (front_none c.args.header.now.sinks c.new.result.items c.new.ensures.items) (later_refl before) (lent_none before c.new.result.items c.new.ensures.items) tt
    c.unserved.ensures.status c.unserved.ensures.lanes c.unserved.ensures.core

pub returns-in-Err-clause-tape : goal.returns-in-Err-clause-tape
returns-in-Err-clause-tape g c =
    untaped g.H.R.Recorder.visible c.args.taped c.unserved.result.status c.unserved.result.lanes.items c.unserved.result.tape Memory c.unserved.ensures.status c.unserved.ensures.tape
