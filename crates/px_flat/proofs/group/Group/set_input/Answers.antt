use Rattle.std.proofs.Common.{length}
use Rattle.px_flat.specs.Member.{IsMember, is_input, with_volume}
use Rattle.px_flat.proofs.Preserved.{all_change, with_volume_keeps}
use Rattle.px_flat.proofs.TrueTo.{settled_is}
use Rattle.px_flat.proofs.group.Group.set_input.Goals as goal

pub settle-requires : goal.settle-requires
settle-requires c =
    rw c.set_volume.ensures (all_change (IsMember (length c.self.inside.reference)) (is_input c.args.input) (with_volume c.args.volume.now) (with_volume_keeps (length c.self.inside.reference) c.args.volume.now) c.self.inside.members.items c.self.invariant.members)

pub invariant_of-self : goal.invariant_of-self
invariant_of-self c =
    rw (c.settle.ensures.reference, c.settle.ensures.members)
    (settled_is c.dividing_is_undone.ensures.undone c.self.inside.reference c.self.inside.muted c.set_volume.new.members.items
    (rw c.set_volume.ensures (all_change (IsMember (length c.self.inside.reference)) (is_input c.args.input) (with_volume c.args.volume.now) (with_volume_keeps (length c.self.inside.reference) c.args.volume.now) c.self.inside.members.items c.self.invariant.members)))
