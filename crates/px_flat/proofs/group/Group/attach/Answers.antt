use Rattle.std.proofs.Common.{length}
use Rattle.px_flat.specs.Member.{IsMember}
use Rattle.px_flat.proofs.Preserved.{all_more, coming_is}
use Rattle.px_flat.proofs.TrueTo.{settled_is}
use Rattle.px_flat.proofs.group.Group.attach.Goals as goal

pub settle-requires : goal.settle-requires
settle-requires c =
    let comes : IsMember (length c.self.inside.reference) c.coming.result =
    rw c.coming.ensures (coming_is (length c.self.inside.reference) c.args.input c.self.inside.reference c.args.given.now c.args.how c.args.muted c.args.feed.now (rw (← c.self.view_is) at c.requires.feeds) c.requires.how) in
    rw c.in_ok-push.ensures.items (all_more (IsMember (length c.self.inside.reference)) c.self.inside.members.items c.coming.result c.self.invariant.members comes)

pub invariant_of-self-2 : goal.invariant_of-self-2
invariant_of-self-2 c =
    let comes : IsMember (length c.self.inside.reference) c.coming.result =
    rw c.coming.ensures (coming_is (length c.self.inside.reference) c.args.input c.self.inside.reference c.args.given.now c.args.how c.args.muted c.args.feed.now (rw (← c.self.view_is) at c.requires.feeds) c.requires.how) in
    rw (c.settle.ensures.reference, c.settle.ensures.members)
    (settled_is c.dividing_is_undone.ensures.undone c.self.inside.reference c.self.inside.muted c.push.new.self.items
    (rw c.in_ok-push.ensures.items (all_more (IsMember (length c.self.inside.reference)) c.self.inside.members.items c.coming.result c.self.invariant.members comes)))
