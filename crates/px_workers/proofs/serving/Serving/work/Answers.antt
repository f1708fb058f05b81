use Rattle.std.proofs.Common.{rules, ◌≡◌, ◌++◌, ◌∙◌, length, ap, arith}
use Rattle.px_workers.proofs.Accepting.{all_started, parts_started}
use Rattle.px_workers.specs.Hosted.{IsCalm}
use Rattle.px_workers.proofs.Later.{later_later, cause_later}
use Rattle.px_workers.proofs.serving.Serving.work.Goals as goal

pub accept_all-requires-clause-room : goal.accept_all-requires-clause-room
accept_all-requires-clause-room g c κs within =
    let none : length c.start_sinks.new.self.clients.items ≡ 0 = ap (λ (d : _). length d.items) c.start_sinks.ensures.starts.clients ∙ ap length c.requires.idle.1 in
    record { seats = omega (arith, c.start_sinks.ensures.starts.parts, c.requires.seats, c.requires.few); few = omega (arith, none) }

pub returns-in-Ok-clause-parts : goal.returns-in-Ok-clause-parts
returns-in-Ok-clause-parts g c =
    let starts = c.start_sinks.ensures.starts in
    let none : length c.start_sinks.new.self.clients.items ≡ 0 = ap (λ (d : _). length d.items) starts.clients ∙ ap length c.requires.idle.1 in
    let started = parts_started (g.W.Handle.parts c.start_sinks.new.self.handle) (g.W.Handle.parts c.args.self.now.handle) c.start_sinks.new.self.sinks.items c.start_sinks.new.idle.items c.args.idle.now.items starts.parts
    (all_started c.start_sinks.new.self.sinks.items c.start_sinks.new.idle.items c.args.self.now.sinks.items c.args.idle.now.items starts.all c.requires.idle.0) in
    omega (arith, none, started, c.requires.seats, c.accept_all.ensures.takes.parts, ap (λ (d : _). length d.items) c.accept_all.ensures.takes.sinks)

pub returns-in-Ok-clause-all : goal.returns-in-Ok-clause-all
returns-in-Ok-clause-all g c =
    ap (λ (d : _). d.items ++ c.start_sinks.new.idle.items) c.accept_all.ensures.takes.sinks
    ∙ all_started c.start_sinks.new.self.sinks.items c.start_sinks.new.idle.items c.args.self.now.sinks.items c.args.idle.now.items c.start_sinks.ensures.starts.all c.requires.idle.0

pub returns-in-Ok-clause-capacity : goal.returns-in-Ok-clause-capacity
returns-in-Ok-clause-capacity g c = c.start_sinks.ensures.starts.capacity

pub returns-in-Ok-clause-later : goal.returns-in-Ok-clause-later
returns-in-Ok-clause-later g c = later_later _ _ _ c.start_sinks.ensures.starts.later c.accept_all.ensures.takes.later

pub returns-in-Ok-clause-lent : goal.returns-in-Ok-clause-lent
returns-in-Ok-clause-lent g c = c.accept_all.ensures.takes.lent ∙ c.start_sinks.ensures.starts.lent

pub returns-in-Ok-clause-dialled : goal.returns-in-Ok-clause-dialled
returns-in-Ok-clause-dialled g c = c.accept_all.ensures.dialled ∙ c.start_sinks.ensures.dialled

pub returns-in-Ok-clause-cause : goal.returns-in-Ok-clause-cause
returns-in-Ok-clause-cause g c =
    let calm : IsCalm (g.H.Host.now c.args.host.now) (g.H.Host.now c.start_sinks.new.host) = search rules in
    cause_later c.accept_all.result _ _ _ c.start_sinks.ensures.starts.later calm c.accept_all.ensures.cause

pub returns-in-Err-clause-parts : goal.returns-in-Err-clause-parts
returns-in-Err-clause-parts g c =
    let starts = c.start_sinks.ensures.starts in
    let none : length c.start_sinks.new.self.clients.items ≡ 0 = ap (λ (d : _). length d.items) starts.clients ∙ ap length c.requires.idle.1 in
    let started = parts_started (g.W.Handle.parts c.start_sinks.new.self.handle) (g.W.Handle.parts c.args.self.now.handle) c.start_sinks.new.self.sinks.items c.start_sinks.new.idle.items c.args.idle.now.items starts.parts
    (all_started c.start_sinks.new.self.sinks.items c.start_sinks.new.idle.items c.args.self.now.sinks.items c.args.idle.now.items starts.all c.requires.idle.0) in
    omega (arith, none, started, c.requires.seats)

pub returns-in-Err-clause-all : goal.returns-in-Err-clause-all
returns-in-Err-clause-all g c =
    all_started c.start_sinks.new.self.sinks.items c.start_sinks.new.idle.items c.args.self.now.sinks.items c.args.idle.now.items c.start_sinks.ensures.starts.all c.requires.idle.0

pub returns-in-Err-clause-capacity : goal.returns-in-Err-clause-capacity
returns-in-Err-clause-capacity g c = c.start_sinks.ensures.starts.capacity

pub returns-in-Err-clause-later : goal.returns-in-Err-clause-later
returns-in-Err-clause-later g c = c.start_sinks.ensures.starts.later

pub returns-in-Err-clause-lent : goal.returns-in-Err-clause-lent
returns-in-Err-clause-lent g c = c.start_sinks.ensures.starts.lent

pub returns-in-Err-clause-cause : goal.returns-in-Err-clause-cause
returns-in-Err-clause-cause g c = c.in-Err.ensures.cause

pub returns-in-Err-clause-dialled : goal.returns-in-Err-clause-dialled
returns-in-Err-clause-dialled g c = c.start_sinks.ensures.dialled
