use Rattle.std.proofs.Common.{◌++◌, ◌∙◌, ap, refl, List}
use Rattle.px_workers.proofs.Going.{put_back, moved_over, fewer_left, parts_over, parts_same}
use Rattle.px_workers.proofs.starting.start_next.Goals as goal

pub returns-in-Ok-clause-parts : goal.returns-in-Ok-clause-parts
returns-in-Ok-clause-parts g c =
    parts_over (g.W.Handle.parts c.add_sink.new.handle) (g.W.Handle.parts c.args.handle.now) c.args.idle.now.items c.pop_front.new.self.items c.in-Some.one c.in-Ok.ensures.ok.1 c.in-Some.ensures.items

pub returns-in-Ok-clause-all : goal.returns-in-Ok-clause-all
returns-in-Ok-clause-all g c =
    moved_over c.args.sinks.now.items c.args.sinks.now.items c.add_sink.new.sinks.items c.args.idle.now.items c.pop_front.new.self.items c.in-Some.one c.in-Some.one
    refl c.in-Ok.ensures.ok.0 refl c.in-Some.ensures.items

pub returns-in-Ok-clause-capacity : goal.returns-in-Ok-clause-capacity
returns-in-Ok-clause-capacity g c = c.pop_front.ensures.capacity

pub returns-in-Ok-clause-fewer : goal.returns-in-Ok-clause-fewer
returns-in-Ok-clause-fewer g c = fewer_left c.args.idle.now.items c.pop_front.new.self.items c.in-Some.one c.in-Some.ensures.items

pub returns-in-Err-clause-parts : goal.returns-in-Err-clause-parts
returns-in-Err-clause-parts g c =
    parts_same (g.W.Handle.parts c.add_sink.new.handle) (g.W.Handle.parts c.args.handle.now) c.args.idle.now.items c.push_front_reserved.new.self.items c.in-Err.ensures.err.2
    (put_back c.args.idle.now.items c.pop_front.new.self.items c.push_front_reserved.new.self.items c.in-Some.one c.in-Err.one c.in-Some.ensures.items c.in-Err.ensures.err.0 c.push_front_reserved.ensures.items)

pub returns-in-Err-clause-all : goal.returns-in-Err-clause-all
returns-in-Err-clause-all g c =
    ap (λ (l : List _). l ++ c.push_front_reserved.new.self.items) c.in-Err.ensures.err.1
    ∙ ap (λ (l : List _). c.args.sinks.now.items ++ l)
    (put_back c.args.idle.now.items c.pop_front.new.self.items c.push_front_reserved.new.self.items c.in-Some.one c.in-Err.one c.in-Some.ensures.items c.in-Err.ensures.err.0 c.push_front_reserved.ensures.items)

pub returns-in-Err-clause-capacity : goal.returns-in-Err-clause-capacity
returns-in-Err-clause-capacity g c = c.push_front_reserved.ensures.capacity ∙ c.pop_front.ensures.capacity

pub returns-in-Err-clause-fewer : goal.returns-in-Err-clause-fewer
returns-in-Err-clause-fewer g c = tt
