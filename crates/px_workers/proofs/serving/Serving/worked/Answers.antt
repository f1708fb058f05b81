use Rattle.std.proofs.Common.{rules, ◌≤◌, ◌∙◌, ap, length, map}
use Rattle.std.specs.VecDeque.{deque_capacity}
use Rattle.px_workers.specs.Working.{lasting_of}
use Rattle.px_workers.proofs.Accepting.{room_left}
use Rattle.px_workers.proofs.serving.Serving.worked.Goals as goal

pub work-stop-requires-clause-idle : goal.work-stop-requires-clause-idle
work-stop-requires-clause-idle g c κs within = c.requires.idle

pub work-stop-requires-clause-seats : goal.work-stop-requires-clause-seats
work-stop-requires-clause-seats g c κs within = c.requires.seats

pub work-stop-requires-clause-few : goal.work-stop-requires-clause-few
work-stop-requires-clause-few g c κs within = c.requires.few

pub joined-requires-clause-parts : goal.joined-requires-clause-parts
joined-requires-clause-parts g c κs within = c.work-stop.ensures.parts

pub joined-requires-clause-room : goal.joined-requires-clause-room
joined-requires-clause-room g c κs within =
    let fits : length c.args.idle.now.items ≤ deque_capacity c.args.idle.now = search rules in
    room_left c.work-stop.new.self.sinks.items c.work-stop.new.idle.items c.args.idle.now.items (deque_capacity c.work-stop.new.idle) (deque_capacity c.args.idle.now)
    c.work-stop.ensures.all c.work-stop.ensures.capacity fits

pub returns-clause-seats : goal.returns-clause-seats
returns-clause-seats g c = c.joined.ensures.seats

pub returns-clause-lasting : goal.returns-clause-lasting
returns-clause-lasting g c = c.joined.ensures.lasting ∙ ap (map lasting_of) c.work-stop.ensures.all

pub returns-clause-later : goal.returns-clause-later
returns-clause-later g c = c.work-stop.ensures.later

pub returns-clause-lent : goal.returns-clause-lent
returns-clause-lent g c = c.work-stop.ensures.lent

pub returns-clause-cause : goal.returns-clause-cause
returns-clause-cause g c = c.work-stop.ensures.cause

pub returns-clause-dialled : goal.returns-clause-dialled
returns-clause-dialled g c = c.work-stop.ensures.dialled
