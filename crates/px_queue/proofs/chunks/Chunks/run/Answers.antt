use Rattle.std.proofs.Common.{ℕ, arith}
use Rattle.px_queue.specs.Pieces.{byte_at}
use Rattle.px_queue.proofs.Finding.{run_more}
use Rattle.px_queue.proofs.chunks.Chunks.run.Goals as goal

pub loop-count-preserved : goal.loop-count-preserved
loop-count-preserved c =
    let count : ℕ = c.loop-count.count in
    let more : ℕ = c.part_at-place.result.1 in
    record {
      few = omega (arith, c.part_at-place.ensures.few, c.loop-count-test.true);
      held = run_more (byte_at c.args.self.now.before) c.args.from count more c.loop-count.invariant.held c.part_at-place.ensures.held;
    }
