use Rattle.std.proofs.Common.{◌≡◌, ◌+◌, ◌≤◌, drop, length, arith, sym, subst, length-drop}
use Rattle.std.proofs.lemmas.Grind.{common_steps}
use Rattle.px_mixcache.specs.Run.{KeptRun, AreWords}
use Rattle.px_mixcache.proofs.Gone.{words_further}
use Rattle.px_mixcache.proofs.run.Run.advance.Goals as goal

pub invariant_of-self : goal.invariant_of-self
invariant_of-self c =
    let d = c.self.inside in
    let same : c.truncate.new.self.items ≡ drop (d.gone + c.args.frames) d.sums.items = grind (arith, common_steps) in (
      omega arith,
      omega arith,
      omega (arith, c.self.invariant.2),
      omega (arith, c.self.invariant.3, c.truncate.ensures.capacity, c.copy_within.ensures.capacity),
      subst AreWords (sym same) (words_further d.gone c.args.frames d.sums.items c.self.invariant.4),
    )

pub invariant_of-self-else-self : goal.invariant_of-self-else-self
invariant_of-self-else-self c =
    let d = c.self.inside in
    let left : c.args.frames ≤ length (drop d.gone d.sums.items) = subst (λ (r : KeptRun). c.args.frames ≤ length r.sums) (sym c.self.view_is) c.requires in (
      omega (arith, c.if-self.false),
      omega (arith, left, length-drop d.gone d.sums.items, c.self.invariant.1),
      omega (arith, c.self.invariant.2),
      c.self.invariant.3,
      words_further d.gone c.args.frames d.sums.items c.self.invariant.4,
    )
