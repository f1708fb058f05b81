use Rattle.std.proofs.Common.{List, map, ap, sym, subst, ◌∙◌}
use Rattle.std.specs.Prelude.{All}
use Rattle.px_header.specs.declared.header.SinkSpec.{SinkSpec}
use Rattle.px_header.specs.HeaderRules.{IsSink}
use Rattle.px_world.proofs.Beginning.{all_sinks}
use Rattle.px_ramp_world.specs.World.{new_ramped_mixer}
use Rattle.px_ramp_world.proofs.Beginning.{begins, consistent_begins}
use Rattle.px_ramp_world.proofs.world.RampWorld.new.Goals as goal

pub new_mixers-requires-clause-sinks : goal.new_mixers-requires-clause-sinks
new_mixers-requires-clause-sinks c =
    subst (λ (sinks : List SinkSpec). All (λ (s : SinkSpec). (earlier : List SinkSpec) × IsSink earlier s) sinks) (sym c.as_slice.ensures) (all_sinks c.args.header.now.sinks c.requires.header.sinks)

pub invariant_of-result : goal.invariant_of-result
invariant_of-result c = λ going. (
  consistent_begins c.args.ramp c.args.header.now c.in_ok-core.core.state c.in_ok-mixers.mixers.items c.requires.header c.in_ok-core.ensures
      (c.in_ok-mixers.ensures.mixers ∙ ap (λ (sinks : List SinkSpec). map (new_ramped_mixer c.args.ramp) sinks) c.as_slice.ensures),
  c.in_ok-mixers.ensures.playing,
)
