-- A device in memory, all of whose bytes are visible, and which consumes what it was set to.
use Rattle.std.specs.Prelude.{ℕ, ◌+◌, ◌-◌, ◌*◌, ◌/◌, min, Bool, true, false, ◌||◌, List, [], ◌++◌, length, take, drop, Option, None, Some}
use Rattle.std.specs.Option.{unwrap_or}
use Rattle.px_types.specs.Faults.{next_count}
use Rattle.px_ends.specs.declared.device.DeviceShape.{DeviceShape}
use Rattle.px_ends.specs.Device.{DeviceState, Next, consume, fail}

pub record MemoryDevice : Type 0 where
  -- bytes per frame, and guard, depth, consumed and filled in frames
  pub frame : ℕ
  pub guard : ℕ
  pub depth : ℕ
  pub consumed : ℕ
  pub filled : ℕ
  -- the bytes from consumed to filled, and those played since they were last taken
  pub buffer : List ℕ
  pub played : List ℕ
  pub faults : ℕ
  pub failed : Bool
  -- the next sync is to fail
  pub stopping : Bool
  -- the frames that the next sync is to consume, where they are set
  pub armed : Option ℕ
  -- the frames that each later sync is to consume, and how many are left of all these
  pub each : ℕ
  pub left : ℕ

-- the frames that the next sync is to consume, whatever waits
abbrev pub set_of : Option ℕ → ℕ → ℕ → ℕ
set_of None each left = min each left
set_of (Some armed) each left = armed

-- what the next sync does
abbrev pub next_of : Bool → ℕ → Next
next_of true set = fail
next_of false set = consume set

abbrev pub state_of : MemoryDevice → DeviceState
state_of d = record {
  frame = d.frame;
  guard = d.guard;
  depth = d.depth;
  consumed = d.consumed;
  filled = d.filled;
  buffer = Some d.buffer;
  played = Some d.played;
  faults = d.faults;
  failed = d.failed;
  next = Some (next_of (d.stopping || d.failed) (set_of d.armed d.each d.left));
}

abbrev pub new_memory_device : DeviceShape → MemoryDevice
new_memory_device shape = record {
  frame = shape.frame;
  guard = shape.guard;
  depth = shape.depth;
  consumed = 0;
  filled = 0;
  buffer = [];
  played = [];
  faults = 0;
  failed = false;
  stopping = false;
  armed = None;
  each = 0;
  left = 0;
}

-- what the next sync consumes where this many frames wait
abbrev pub due_of : Option ℕ → ℕ → ℕ → ℕ → ℕ
due_of armed each left waiting = min (set_of armed each left) waiting

abbrev pub due_in : MemoryDevice → ℕ
due_in d = due_of d.armed d.each d.left (d.filled - d.consumed)

-- how many frames are left for later syncs to consume
abbrev pub left_after : Option ℕ → ℕ → ℕ → ℕ
left_after None left due = left - due
left_after (Some armed) left due = left

-- after a sync that consumed n frames
abbrev pub synced : ℕ → MemoryDevice → MemoryDevice
synced n d = record d {
  consumed = d.consumed + n;
  buffer = drop (n * d.frame) d.buffer;
  played = d.played ++ take (n * d.frame) d.buffer;
  armed = None;
  left = left_after d.armed d.left n;
}

-- after a sync that failed
abbrev pub sync_failed : MemoryDevice → MemoryDevice
sync_failed d = record d { faults = next_count d.faults; failed = true }

-- after frames were put from this one on
abbrev pub after_put : ℕ → List ℕ → MemoryDevice → MemoryDevice
after_put at bytes d = record d {
  filled = at + length bytes / d.frame;
  buffer = take ((at - d.consumed) * d.frame) d.buffer ++ bytes;
}

-- after what was played was taken
abbrev pub taken : MemoryDevice → MemoryDevice
taken d = record d { played = [] }

-- how many frames later syncs are set to consume at the most
abbrev pub set_in : MemoryDevice → ℕ
set_in d = unwrap_or d.armed 0 + d.left
