use Rattle.std.proofs.Common.{length}
use Rattle.px_flat.specs.Member.{IsMember, at_reference}
use Rattle.px_flat.proofs.Preserved.{all_map, at_reference_keeps}
use Rattle.px_flat.proofs.members.each_is_set.Goals as goal

pub each_follows-requires : goal.each_follows-requires
each_follows-requires c =
    rw c.each_at_reference.ensures
    (all_map (IsMember (length c.args.reference.now)) (IsMember (length c.args.reference.now)) (at_reference c.args.reference.now)
    (at_reference_keeps (length c.args.reference.now) c.args.reference.now) c.args.members.now c.requires)
