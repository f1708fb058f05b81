use Rattle.std.proofs.Common.{ℕ, ◌+◌, ◌-◌, ◌/◌, ◌≤◌, arith}
use Rattle.px_lane.proofs.Places.{below_up_to}
use Rattle.px_lane.proofs.finding.halved.Goals as goal

pub loop-low-preserved-then-inputs-middle : goal.loop-low-preserved-then-inputs-middle
loop-low-preserved-then-inputs-middle c =
    let low = c.loop-low.low in
    let high = c.loop-low.high in
    let middle : ℕ = low + (high - low) / 2 in
    let order : middle + 1 ≤ high = grind (arith, c.loop-low-test.true) in (
      order,
      c.loop-low.invariant.1,
      below_up_to c.args.index.0 middle c.args.inputs.now c.index-inputs-middle.result c.requires (omega (arith, order, c.loop-low.invariant.1)) c.if-inputs-middle.true,
      c.loop-low.invariant.3,
    )
