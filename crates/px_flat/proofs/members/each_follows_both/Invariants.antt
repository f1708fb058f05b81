use Rattle.px_flat.specs.declared.member.Member.{Member}
use Rattle.px_flat.specs.Member.{to_reference, to_real}
use Rattle.px_flat.proofs.EachOne.{Done}
use Rattle.px_flat.proofs.members.each_follows_both.Given as goal

abbrev pub invariant-loop-member : goal.invariant-loop-member
invariant-loop-member l = Done (λ (m : Member). to_real l.real (to_reference l.reference m)) l.fn.members l.members l.member-index
