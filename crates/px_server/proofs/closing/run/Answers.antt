use Rattle.std.proofs.Common.{◌∙◌, ◌≤◌, sym, subst, map}
use Rattle.std.specs.Prelude.{vec_capacity}
use Rattle.px_workers.specs.Working.{start_of, mailboxes_of}
use Rattle.px_server.proofs.Delivering.{same_count}
use Rattle.px_server.proofs.Ending.{ends_since}
use Rattle.px_server.proofs.Naming.{same_boxes}
use Rattle.px_server.proofs.Taping.{taping_since}
use Rattle.px_server.proofs.closing.run.Goals as goal

pub ended-requires-clause-sinks : goal.ended-requires-clause-sinks
ended-requires-clause-sinks g c κs within = (c.requires.sinks.0, c.serve_all-handle.ensures.starts ∙ c.requires.sinks.1)

pub ended-requires-clause-boxes : goal.ended-requires-clause-boxes
ended-requires-clause-boxes g c κs within = same_boxes c.serve_all-handle.new.idle.items c.args.idle.items c.serve_all-handle.ensures.boxes ∙ c.requires.boxes

pub ended-requires-clause-room : goal.ended-requires-clause-room
ended-requires-clause-room g c κs within =
    subst (λ (n : _). n ≤ vec_capacity c.args.lanes) (sym (same_count mailboxes_of mailboxes_of c.serve_all-handle.new.idle.items c.args.idle.items c.serve_all-handle.ensures.boxes)) c.requires.room

pub ended-requires-clause-turns_room : goal.ended-requires-clause-turns_room
ended-requires-clause-turns_room g c κs within =
    subst (λ (n : _). n ≤ vec_capacity c.args.turns) (sym (same_count mailboxes_of mailboxes_of c.serve_all-handle.new.idle.items c.args.idle.items c.serve_all-handle.ensures.boxes)) c.requires.turns_room

pub ended-requires-clause-taping : goal.ended-requires-clause-taping
ended-requires-clause-taping g c κs within = λ on. taping_since c.args.idle.items c.serve_all-handle.new.idle.items c.serve_all-handle.ensures.tapes (c.requires.taping on)

pub returns-clause-ends : goal.returns-clause-ends
returns-clause-ends g c =
    ends_since g.H.D.Device.now g.H.R.Recorder.visible g.H.R.Recorder.faults g.H.R.Recorder.fulls g.H.C.Recorder.visible g.H.C.Recorder.faults g.H.C.Recorder.fulls
    g.L.Seats.began (map start_of c.serve_all-handle.new.idle.items) (map start_of c.args.idle.items) (g.H.Host.now c.args.host.now) (g.H.Host.now c.serve_all-handle.new.host)
    c.ended.result.status c.ended.result.lanes.items c.ended.result.core
    c.serve_all-handle.ensures.starts (c.ended.ensures.ends (g.H.Host.now c.args.host.now) (g.H.Host.now c.serve_all-handle.new.host) c.serve_all-handle.ensures.cause)
