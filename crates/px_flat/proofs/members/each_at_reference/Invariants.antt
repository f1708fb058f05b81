use Rattle.px_flat.specs.Member.{at_reference}
use Rattle.px_flat.proofs.EachOne.{Done}
use Rattle.px_flat.proofs.members.each_at_reference.Given as goal

abbrev pub invariant-loop-member : goal.invariant-loop-member
invariant-loop-member l = Done (at_reference l.reference) l.fn.members l.members l.member-index
