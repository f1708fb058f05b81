use Rattle.std.proofs.Common.{◌≡◌, map, take}
use Rattle.std.specs.List.{AllByRecursion}
use Rattle.px_world.specs.World.{new_mixer}
use Rattle.px_world.specs.Playing.{mixer_of, IsPlaying}
use Rattle.px_world.proofs.world.new_mixers.Given as goal

-- those of the first sinks are made
abbrev pub invariant-loop-sink : goal.invariant-loop-sink
invariant-loop-sink l = record {
  mixers : map mixer_of l.made.items ≡ map new_mixer (take l.sink-index l.sinks);
  playing : AllByRecursion IsPlaying l.made.items;
}
