use Rattle.std.proofs.Common.{◌≡◌}
use Rattle.px_model.specs.Sink.{with_stream}
use Rattle.px_model.specs.Turn.{asked_stream, asked_notices}
use Rattle.px_lane.proofs.Each.{Done}
use Rattle.px_lane.proofs.inputs.ask_each.Given as goal

abbrev pub invariant-loop-input : goal.invariant-loop-input
invariant-loop-input l =
    Done (with_stream (asked_stream l.mixed)) (asked_notices l.mixed) l.fn.inputs l.inputs l.fn.out.notices l.out.notices l.input-index
    × (l.out.capacity ≡ l.fn.out.capacity)
