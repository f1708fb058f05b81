use Rattle.std.proofs.Common.{arith, ap, sym, subst, ◌∙◌, length, get_or}
use Rattle.px_flat.specs.declared.member.Member.{Member}
use Rattle.px_flat.specs.Member.{IsMember, to_reference, to_real}
use Rattle.px_flat.proofs.EachOne.{done_more, next_was}
use Rattle.px_flat.proofs.Preserved.{to_reference_keeps}
use Rattle.px_flat.proofs.members.each_follows_both.Goals as goal

pub follow_real-requires : goal.follow_real-requires
follow_real-requires c =
    let l = c.loop-member in
    subst (IsMember (length c.args.real.now)) (sym c.follow_reference.ensures)
    (to_reference_keeps (length c.args.real.now) c.args.reference.now (get_or l.members l.member-index c.member-item.result)
    (next_was (IsMember (length c.args.real.now)) (λ (m : Member). to_real c.args.real.now (to_reference c.args.reference.now m)) c.args.members.now
    l.members l.member-index c.member-item.result l.invariant (omega (arith, l.auto.members, c.loop-member-test.true)) l.auto.members c.requires.real))

pub loop-member-preserved : goal.loop-member-preserved
loop-member-preserved c =
    let l = c.loop-member in
    done_more (λ (m : Member). to_real c.args.real.now (to_reference c.args.reference.now m)) c.args.members.now l.members l.member-index c.member-item.result c.follow_real.new.self
    l.invariant (omega (arith, l.auto.members, c.loop-member-test.true)) l.auto.members
    (c.follow_real.ensures ∙ ap (to_real c.args.real.now) c.follow_reference.ensures)
