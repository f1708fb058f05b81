use Rattle.std.proofs.Common.{length, sym}
use Rattle.px_flat.specs.Member.{is_input, IsMember}
use Rattle.px_ctl_play.proofs.Joined.{found_is}
use Rattle.px_ctl_play.proofs.arrival.member_of.Goals as goal

pub returns-in-Some-clause-is : goal.returns-in-Some-clause-is
returns-in-Some-clause-is c =
    found_is (IsMember (length c.args.group.now.reference)) (is_input c.args.index) c.members.result.now c.in-Some.member.now c.members.ensures.each (sym c.in-Some.ensures)
