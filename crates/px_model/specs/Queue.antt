-- A queue of frames: what is held, its two indices, and prebuffering (PulseAudio: pulsecore/memblockq.c). All counts are frames.
use Rattle.std.specs.Prelude.{ℕ, ◌<◌, max, ℤ, ◌≤ℤ◌, Bool, IsTrue, ◌&&◌, List, length, Option, Some, None, nat_lt, ◌==◌, if◌then◌else◌}
use Rattle.std.specs.Int.{int_max}
use Rattle.px_model.specs.Index.{above, onward, IsIndex, LAST}
use Rattle.px_model.specs.Frame.{Frame}
use Rattle.px_model.specs.Held.{place, IsTrimmed, frame_of}

pub record Queue : Type 0 where
  -- the places from the read index on
  pub held : List (Option Frame)
  -- the next frame to read, and the next to write
  pub read : ℤ
  pub write : ℤ
  -- it waits until prebuf frames are there before it plays (`in_prebuf`)
  pub hold : Bool
  pub prebuf : ℕ

-- the frame held at index i
abbrev pub frame_held : Queue → ℤ → Option Frame
frame_held q i = frame_of q.read q.held i

-- one past the last frame held; the read index where none is held
abbrev pub end_of : Queue → ℤ
end_of q = onward q.read (length q.held)

-- where the queue ends (its edge): the greater of the write index and the end; the write index where nothing is held
abbrev pub edge_of : Queue → ℤ
edge_of q = if length q.held == 0 then q.write else int_max q.write (end_of q)

-- the frames from the read index to the edge, 0 where that lies below
abbrev pub left_of : Queue → ℕ
left_of q = max (above q.write q.read) (length q.held)

-- short: it holds, and fewer than prebuf frames wait
abbrev pub is_short : Queue → Bool
is_short q = q.hold && nat_lt (above q.write q.read) q.prebuf

-- the frame at a place ahead: nothing, silence, or a frame held
pub data FrameAhead : Type 0 where
  nothing : FrameAhead
  silence : FrameAhead
  sound : Frame → FrameAhead

-- a place's frame, or silence in a hole
abbrev pub sound_of : Option Frame → FrameAhead
sound_of None = silence
sound_of (Some frame) = sound frame

-- the frame k ahead of the read index: nothing where the queue is short, or past its edge
abbrev pub queue_frame : Queue → ℕ → FrameAhead
queue_frame q k = if is_short q then nothing else (if nat_lt k (left_of q) then sound_of (place q.held k) else nothing)

-- the invariant of a queue
pub record IsQueue (q : Queue) : Type 0 where
  pub trimmed : IsTrimmed q.held
  pub read_in_range : IsIndex q.read
  pub write_in_range : IsIndex q.write
  pub held_in_range : end_of q ≤ℤ LAST
  -- it holds only with prebuffering
  pub hold_has_prebuf : IsTrue q.hold → 0 < q.prebuf
