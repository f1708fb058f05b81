use Rattle.px_flat.proofs.members.follow.Goals as goal

pub each_follows-requires : goal.each_follows-requires
each_follows-requires c = rw c.as_mut_slice.ensures.value c.requires
