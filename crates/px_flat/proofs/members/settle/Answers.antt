use Rattle.px_flat.proofs.members.settle.Goals as goal

pub each_settles-requires : goal.each_settles-requires
each_settles-requires c = rw c.as_mut_slice.ensures.value c.requires
