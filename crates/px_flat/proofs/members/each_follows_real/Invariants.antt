use Rattle.px_flat.specs.Member.{to_real}
use Rattle.px_flat.proofs.EachOne.{Done}
use Rattle.px_flat.proofs.members.each_follows_real.Given as goal

abbrev pub invariant-loop-member : goal.invariant-loop-member
invariant-loop-member l = Done (to_real l.real) l.fn.members l.members l.member-index
