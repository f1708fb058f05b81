-- The frame counts of a sink.
use Rattle.px_world.specs.declared.frames.Frames.{Frames}
use Rattle.px_world.specs.World.{Mixer}

abbrev pub frames_of : Mixer → Frames
frames_of m = record { consumed = m.sink.consumed; filled = m.sink.filled }
