use Rattle.std.proofs.Common.{arith}
use Rattle.px_flat.specs.Member.{at_reference}
use Rattle.px_flat.proofs.EachOne.{done_more}
use Rattle.px_flat.proofs.members.each_at_reference.Goals as goal

pub loop-member-preserved : goal.loop-member-preserved
loop-member-preserved c =
    let l = c.loop-member in
    done_more (at_reference c.args.reference.now) c.args.members.now l.members l.member-index c.member-item.result c.set_at_reference.new.self
    l.invariant (omega (arith, l.auto.members, c.loop-member-test.true)) l.auto.members c.set_at_reference.ensures
