use Rattle.std.proofs.Common.{◌≡◌, take}
use Rattle.std.specs.List.{flat_map}
use Rattle.px_ends.specs.Visible.{after_adding}
use Rattle.px_world.specs.Output.{effect_record}
use Rattle.px_app.proofs.records.write_effects.Given as goal

-- the records of the effects so far were added
abbrev pub invariant-loop-effect : goal.invariant-loop-effect
invariant-loop-effect g l = record {
  added : g.K.Sink.held l.output ≡ after_adding (g.K.Sink.held l.fn.output) (flat_map effect_record (take l.effect-index l.effects));
}
