use Rattle.std.proofs.Common.{◌≡◌}
use Rattle.px_model.specs.Going.{after}
use Rattle.px_model.specs.Sink.{with_stream}
use Rattle.px_model.specs.Turn.{going_notices}
use Rattle.px_lane.proofs.Each.{Done}
use Rattle.px_lane.proofs.inputs.go_each.Given as goal

abbrev pub invariant-loop-input : goal.invariant-loop-input
invariant-loop-input g l =
    Done (with_stream (λ s. after s l.frames)) (going_notices l.frames) l.fn.inputs l.inputs l.fn.out.notices l.out.notices l.input-index
    × (l.out.capacity ≡ l.fn.out.capacity)
