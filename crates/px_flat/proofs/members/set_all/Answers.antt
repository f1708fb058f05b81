use Rattle.px_flat.proofs.members.set_all.Goals as goal

pub each_is_set-requires : goal.each_is_set-requires
each_is_set-requires c = rw c.as_mut_slice.ensures.value c.requires
