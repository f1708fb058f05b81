use Rattle.px_flat.proofs.Same.{reference_stays}
use Rattle.px_flat.proofs.member.Member.follow_reference.Goals as goal

pub returns-else-not-are_after : goal.returns-else-not-are_after
returns-else-not-are_after c = reference_stays c.args.reference.now c.args.self.now (c.are_after.ensures c.if-not-are_after.false)
