-- A device that plays by a clock. Own: PulseAudio's devices have clocks of their own, and its pipe sink plays as fast as its reader reads.
use Rattle.std.specs.Prelude.{ℕ, ◌+◌, ◌-◌, ◌*◌, ◌/◌, min, Bool, true, false, List, [], ◌++◌, length, take, drop, Option, None, Some}
use Rattle.std.specs.Option.{unwrap_or}
use Rattle.px_types.specs.Faults.{next_count}
use Rattle.px_ends.specs.declared.device.DeviceShape.{DeviceShape}
use Rattle.px_ends.specs.Device.{DeviceState}

-- its state, with the sink that its bytes go to, and its clock
pub record Paced (K C : Type 0) : Type 0 where
  -- the bytes of a frame, frames a second, guard and depth
  pub frame : ℕ
  pub rate : ℕ
  pub guard : ℕ
  pub depth : ℕ
  -- frames consumed, and frames put
  pub consumed : ℕ
  pub filled : ℕ
  -- frames that were due but not in the buffer
  pub skipped : ℕ
  -- the moment of the first sync, in microseconds
  pub began : Option ℕ
  -- the bytes of the frames from `consumed` to `filled`
  pub buffer : List ℕ
  -- the number of failed syncs, and whether there was one: then all later ones fail
  pub faults : ℕ
  pub failed : Bool
  pub out : K
  pub clock : C

-- ---- frames that are due

-- the whole frames in `microseconds`, at `rate` frames a second
abbrev pub frames_of : ℕ → ℕ → ℕ
frames_of rate microseconds = microseconds * rate / 1000000

module _ {K C : Type 0} where
  -- nothing is consumed, put, skipped or timed yet
  abbrev pub new_paced : DeviceShape → K → C → Paced K C
  new_paced shape out clock = record {
    frame = shape.frame;
    rate = shape.rate;
    guard = shape.guard;
    depth = shape.depth;
    consumed = 0;
    filled = 0;
    skipped = 0;
    began = None;
    buffer = [];
    faults = 0;
    failed = false;
    out = out;
    clock = clock;
  }

  -- contracts see its numbers, and none of its bytes
  abbrev pub state_of : Paced K C → DeviceState
  state_of d = record {
    frame = d.frame;
    guard = d.guard;
    depth = d.depth;
    consumed = d.consumed;
    filled = d.filled;
    buffer = None;
    played = None;
    faults = d.faults;
    failed = d.failed;
    next = None;
  }

  -- the frames due at a moment: those of the time since the first sync, less those skipped and those consumed
  abbrev pub due_at : ℕ → Paced K C → ℕ
  due_at moment d = frames_of d.rate (moment - unwrap_or d.began moment) - d.skipped - d.consumed

  -- the frames that a sync consumes at that moment: those due, or all in the buffer where these are fewer
  abbrev pub consumed_at : ℕ → Paced K C → ℕ
  consumed_at moment d = min (due_at moment d) (d.filled - d.consumed)

  -- the bytes of these frames
  abbrev pub bytes_at : ℕ → Paced K C → List ℕ
  bytes_at moment d = take (consumed_at moment d * d.frame) d.buffer

  -- after a sync at a moment, with its sink and its clock after it: what is due and not in the buffer is skipped
  abbrev pub synced : ℕ → K → C → Paced K C → Paced K C
  synced moment out clock d = record d {
    consumed = d.consumed + consumed_at moment d;
    skipped = d.skipped + (due_at moment d - consumed_at moment d);
    began = Some (unwrap_or d.began moment);
    buffer = drop (consumed_at moment d * d.frame) d.buffer;
    out = out;
    clock = clock;
  }

  -- once its clock runs: it has begun at this moment, unless it had before
  abbrev pub begun_at : ℕ → K → C → Paced K C → Paced K C
  begun_at moment out clock d = record d { began = Some (unwrap_or d.began moment); out = out; clock = clock }

  -- after a sync whose write failed
  abbrev pub sync_failed : ℕ → K → C → Paced K C → Paced K C
  sync_failed moment out clock d = record d {
    began = Some (unwrap_or d.began moment);
    faults = next_count d.faults;
    failed = true;
    out = out;
    clock = clock;
  }

  -- after a sync that follows a failed one
  abbrev pub fails_again : Paced K C → Paced K C
  fails_again d = record d { faults = next_count d.faults }

  -- after frames were put at `from`
  abbrev pub after_put : ℕ → List ℕ → Paced K C → Paced K C
  after_put at bytes d = record d {
    filled = at + length bytes / d.frame;
    buffer = take ((at - d.consumed) * d.frame) d.buffer ++ bytes;
  }
