use Rattle.std.proofs.Common.{length}
use Rattle.px_flat.specs.Member.{IsMember, is_input}
use Rattle.px_flat.proofs.Preserved.{all_without}
use Rattle.px_flat.proofs.TrueTo.{followed_is}
use Rattle.px_flat.proofs.group.Group.detach.Goals as goal

pub follow-requires : goal.follow-requires
follow-requires c = rw c.forget.ensures (all_without (IsMember (length c.self.inside.reference)) (is_input c.args.input) c.self.inside.members.items c.self.invariant.members)

pub invariant_of-self : goal.invariant_of-self
invariant_of-self c =
    rw c.follow.ensures
    (followed_is c.dividing_is_undone.ensures.undone c.self.inside.reference c.self.inside.muted c.forget.new.members.items
    (rw c.forget.ensures (all_without (IsMember (length c.self.inside.reference)) (is_input c.args.input) c.self.inside.members.items c.self.invariant.members)))
