use Rattle.std.proofs.Common.{◌≡◌, ℕ, ◌+◌, ◌-◌, ◌<◌, ◌≤◌, ap, ◌∙◌, ⊎_elim, arith}
use Rattle.std.proofs.lemmas.Bool.{cases_lt}
use Rattle.px_model.specs.Held.{place}
use Rattle.px_queue.proofs.queue.FrameQueue.holes.Goals as goal

pub loop-count-preserved : goal.loop-count-preserved
loop-count-preserved c =
    let count = c.loop-count.count in
    let held = c.args.self.now.queue.held in (
      omega (arith, c.hole-run.ensures.few, c.loop-count-test.true),
      λ j less. ⊎_elim (λ (old : j < count). c.loop-count.invariant.1 j old)
          (λ (new : count ≤ j).
          let e : c.args.k + j ≡ (c.args.k + count) + (j - count) = omega (arith, new) in
          ap (λ (n : ℕ). place held n) e ∙ c.hole-run.ensures.holes (j - count) (omega (arith, new, less)))
          (cases_lt j count),
    )
