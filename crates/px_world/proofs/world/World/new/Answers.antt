use Rattle.std.proofs.Common.{List, map, ap, ◌∙◌}
use Rattle.px_header.specs.declared.header.SinkSpec.{SinkSpec}
use Rattle.px_world.specs.World.{new_mixer}
use Rattle.px_world.proofs.Beginning.{consistent_begins}
use Rattle.px_world.proofs.world.World.new.Goals as goal

pub invariant_of-result : goal.invariant_of-result
invariant_of-result c = λ going. (
  consistent_begins c.args.header.now c.in_ok-core.core.state c.in_ok-mixers.mixers.items c.requires c.in_ok-core.ensures
      (c.in_ok-mixers.ensures.mixers ∙ ap (λ (sinks : List SinkSpec). map new_mixer sinks) c.as_slice.ensures),
  c.in_ok-mixers.ensures.playing,
)
