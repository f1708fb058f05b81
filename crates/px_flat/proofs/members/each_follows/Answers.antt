use Rattle.std.proofs.Common.{ℕ, sym, subst}
use Rattle.std.specs.List.{AllByRecursion}
use Rattle.px_flat.specs.Member.{IsMember}
use Rattle.px_flat.proofs.members.each_follows.Goals as goal

pub each_follows_real-requires : goal.each_follows_real-requires
each_follows_real-requires c =
    subst (λ (n : ℕ). AllByRecursion (IsMember n) c.args.members.now) (sym c.real_of-real.ensures.length) c.requires
