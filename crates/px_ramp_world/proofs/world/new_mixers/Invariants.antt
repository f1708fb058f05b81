use Rattle.std.proofs.Common.{◌≡◌, map, take}
use Rattle.std.specs.List.{AllByRecursion}
use Rattle.px_ramp_world.specs.World.{new_ramped_mixer}
use Rattle.px_ramp_world.specs.Playing.{ramped_mixer_of, IsPlaying}
use Rattle.px_ramp_world.proofs.world.new_mixers.Given as goal

-- those of the first sinks are made
abbrev pub invariant-loop-sink : goal.invariant-loop-sink
invariant-loop-sink l = record {
  mixers : map ramped_mixer_of l.made.items ≡ map (new_ramped_mixer l.ramp) (take l.sink-index l.sinks);
  playing : AllByRecursion IsPlaying l.made.items;
}
