use Rattle.px_kernel.specs.Clip.{Clips}
use Rattle.px_kernel.proofs.clip.clip_rest.Given as goal

abbrev pub invariant-loop-k : goal.invariant-loop-k
invariant-loop-k l = Clips l.most l.sums l.k l.out
