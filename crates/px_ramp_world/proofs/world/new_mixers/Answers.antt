use Rattle.std.proofs.Common.{List, ap, arith, subst, sym, ◌∙◌}
use Rattle.std.specs.List.{AllByRecursion}
use Rattle.px_header.specs.declared.header.SinkSpec.{SinkSpec}
use Rattle.px_header.specs.HeaderRules.{IsSink}
use Rattle.px_world.proofs.Beginning.{each-push}
use Rattle.px_ramp_world.specs.World.{new_ramped_mixer}
use Rattle.px_ramp_world.specs.Playing.{ramped_mixer_of, IsPlaying}
use Rattle.px_ramp_world.proofs.Beginning.{mixers-next}
use Rattle.px_ramp_world.proofs.world.new_mixers.Goals as goal

pub new-requires-clause-sink : goal.new-requires-clause-sink
new-requires-clause-sink c =
    subst (λ (s : SinkSpec). (earlier : List SinkSpec) × IsSink earlier s) (sym c.sink-item.is) (c.requires.sinks c.loop-sink.sink-index c.sink-item.result (omega (arith, c.loop-sink-test.true)))

pub loop-sink-preserved : goal.loop-sink-preserved
loop-sink-preserved c = record {
  mixers = mixers-next ramped_mixer_of c.args.ramp c.args.sinks.now c.loop-sink.sink-index c.sink-item.result c.loop-sink.made.items c.push.new.self.items c.in_ok-playing.playing
      (omega (arith, c.loop-sink-test.true)) c.in_ok-push.ensures.items (c.in_ok-playing.ensures.mixer ∙ ap (new_ramped_mixer c.args.ramp) c.sink-item.is) c.loop-sink.invariant.mixers;
  playing = subst (AllByRecursion IsPlaying) (sym c.in_ok-push.ensures.items)
      (each-push IsPlaying c.loop-sink.made.items c.in_ok-playing.playing c.loop-sink.invariant.playing c.in_ok-playing.ensures.playing);
}
