use Rattle.std.proofs.Common.{rules, ap, ◌++◌, List, arith}
use Rattle.std.proofs.lemmas.Result.{on_ok_weaker}
use Rattle.px_session.specs.declared.event.Event.{Event}
use Rattle.px_tape.specs.Tape.{IsOther, events_at}
use Rattle.px_tape.proofs.Counts.{counted, none_counted, turn_counted}
use Rattle.px_tape.proofs.Sinks.{other_added, events_taken}
use Rattle.px_tape.proofs.tape.add_mark.Goals as goal

pub returns-in-Made-clause-count : goal.returns-in-Made-clause-count
returns-in-Made-clause-count c =
    let other : IsOther c.in-Made.event = search rules in
    on_ok_weaker c.push.result (λ more. let n = counted c.args.events.now c.push.new.self c.in-Made.event more in omega (arith, n, none_counted c.in-Made.event other)) c.push.ensures.ok

pub returns-in-Made-clause-events : goal.returns-in-Made-clause-events
returns-in-Made-clause-events c =
    let other : IsOther c.in-Made.event = search rules in
    on_ok_weaker c.push.result (λ more at. ap (λ (l : List Event). l ++ events_at at c.args.turns.now) (other_added at c.args.events.now c.push.new.self c.in-Made.event other more)) c.push.ensures.ok

pub returns-in-Some-clause-count : goal.returns-in-Some-clause-count
returns-in-Some-clause-count c =
    on_ok_weaker c.push_turn.result (λ more. let n = turn_counted c.args.events.now c.push_turn.new.self c.in-Some.turn more in omega (arith, n, c.in-Some.ensures.count)) c.push_turn.ensures

pub returns-in-Some-clause-events : goal.returns-in-Some-clause-events
returns-in-Some-clause-events c =
    on_ok_weaker c.push_turn.result (λ more at. events_taken at c.args.events.now c.push_turn.new.self _ c.args.turns.now c.next_turn.new.turns more (c.in-Some.ensures.events at)) c.push_turn.ensures
