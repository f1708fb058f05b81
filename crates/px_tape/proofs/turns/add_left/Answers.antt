use Rattle.std.proofs.Common.{arith}
use Rattle.px_tape.proofs.Counts.{turn_counted}
use Rattle.px_tape.proofs.Sinks.{left_moved}
use Rattle.px_tape.proofs.turns.add_left.Goals as goal

pub loop-turn-preserved : goal.loop-turn-preserved
loop-turn-preserved c =
    let more = turn_counted c.loop-turn.events c.push_turn.new.self c.in-Some.turn c.in_ok-push_turn.ensures in
    record {
      count = omega (arith, more, c.in-Some.ensures.count, c.loop-turn.invariant.count);
      events = left_moved c.loop-turn.events c.push_turn.new.self c.args.events.now c.in-Some.turn c.loop-turn.turns c.next.new.self c.args.turns c.in_ok-push_turn.ensures c.in-Some.ensures.events c.loop-turn.invariant.events;
    }
