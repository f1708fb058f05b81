-- A plain world without the frames in its sinks' buffers.
use Rattle.std.specs.Prelude.{[], map}
use Rattle.px_world.specs.World.{World, Mixer}

abbrev pub without_buffer : Mixer → Mixer
without_buffer m = record m { sink = record m.sink { buffer = [] } }

abbrev pub without_frames : World → World
without_frames w = record w { mixers = map without_buffer w.mixers }
