use Rattle.px_flat.proofs.Same.{real_stays}
use Rattle.px_flat.proofs.member.Member.follow_real.Goals as goal

pub returns-else-not-are_after : goal.returns-else-not-are_after
returns-else-not-are_after c = real_stays c.args.real.now c.args.self.now (c.are_after.ensures c.if-not-are_after.false)
