use Rattle.std.proofs.Common.{arith, ap, ◌∙◌}
use Rattle.px_tape.specs.Tape.{total}
use Rattle.px_tape.proofs.Sinks.{left_added}
use Rattle.px_tape.proofs.turns.add_all_left.Goals as goal

pub loop-of_sink-preserved : goal.loop-of_sink-preserved
loop-of_sink-preserved c =
    let all = ap total c.in-Some.ensures.items in
    record {
      count = omega (arith, all, c.in_ok-add_left.ensures.count, c.loop-of_sink.invariant.count);
      events = λ at. left_added at c.loop-of_sink.events c.add_left.new.events c.in-Some.of_sink c.loop-of_sink.turns.items c.pop_front.new.self.items c.in-Some.ensures.items c.in_ok-add_left.ensures.events ∙ c.loop-of_sink.invariant.events at;
    }
