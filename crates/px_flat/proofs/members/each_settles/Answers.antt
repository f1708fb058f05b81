use Rattle.std.proofs.Common.{ℕ, sym, subst, ◌∙◌}
use Rattle.std.specs.List.{AllByRecursion}
use Rattle.px_flat.specs.Member.{IsMember}
use Rattle.px_flat.proofs.Same.{settled_by}
use Rattle.px_flat.proofs.members.each_settles.Goals as goal

pub each_follows_both-requires-clause-reference : goal.each_follows_both-requires-clause-reference
each_follows_both-requires-clause-reference c =
    subst (λ (n : ℕ). AllByRecursion (IsMember n) c.args.members.now) (sym c.raised.ensures.length) c.requires

pub each_follows_both-requires-clause-real : goal.each_follows_both-requires-clause-real
each_follows_both-requires-clause-real c =
    subst (λ (n : ℕ). AllByRecursion (IsMember n) c.args.members.now) (sym c.real_of-real.ensures.length) c.requires

pub returns-clause-members : goal.returns-clause-members
returns-clause-members c =
    c.each_follows_both.ensures ∙ rw (c.raised.ensures.value, c.real_of-real.ensures.value) (settled_by c.args.reference.now c.args.members.now)
