-- A device: it plays the frames put ahead of time, and those beyond the guard may be rewritten (PulseAudio: the device's buffer of
-- `pa_sink` in pulsecore/sink.h). Own: one record of all its numbers, with its bytes where they are visible.
use Rattle.std.specs.Prelude.{◌≡◌, ℕ, ◌+◌, ◌-◌, ◌*◌, ◌/◌, ◌^◌, ◌≤◌, min, Bool, true, IsFalse, List, ◌++◌, length, take, drop, Option, None, Some, ⊤, false}
use Rattle.px_ends.specs.declared.device.DeviceShape.{DeviceShape}
use Rattle.px_types.specs.Faults.{Rose}
use Rattle.px_ends.specs.Visible.{after_adding, WhereVisible}

-- what a sync does: it consumes n frames, or all that wait if those are fewer, or it fails
pub data Next : Type 0 where
  consume : ℕ → Next
  fail : Next

pub record DeviceState : Type 0 where
  -- bytes per frame
  pub frame : ℕ
  -- frames past consumed that can't be rewritten, and the most frames that wait in the buffer
  pub guard : ℕ
  pub depth : ℕ
  -- frames consumed, and frames put
  pub consumed : ℕ
  pub filled : ℕ
  -- the bytes of the frames from consumed to filled, and all that were played, each None where it isn't visible
  pub buffer : Option (List ℕ)
  pub played : Option (List ℕ)
  -- how many syncs failed, and whether one did: then all later ones do
  pub faults : ℕ
  pub failed : Bool
  -- what the next sync does, where that is visible
  pub next : Option Next

-- the numbers that a shape may have: bytes of a frame, frames a second, guard and depth
pub record IsShape (shape : DeviceShape) : Type 0 where
  pub some_bytes : 1 ≤ shape.frame
  pub few_bytes : shape.frame ≤ 128
  pub some_rate : 1 ≤ shape.rate
  pub high_rate : shape.rate ≤ 192000
  pub some_depth : 1 ≤ shape.depth
  pub low_depth : shape.depth ≤ 65536
  pub guard_within : shape.guard ≤ shape.depth

-- the buffer holds exactly the frames from consumed to filled, where it is visible
abbrev pub HoldsFrames : DeviceState → Type 0
HoldsFrames d = WhereVisible d.buffer (λ bytes. length bytes ≡ (d.filled - d.consumed) * d.frame)

-- ---- a sync

-- the bytes without the first n, where they are visible
abbrev pub without_front : ℕ → Option (List ℕ) → Option (List ℕ)
without_front n None = None
without_front n (Some bytes) = Some (drop n bytes)

-- what was played once the first n bytes of the buffer were played too; not visible where the buffer isn't
abbrev pub with_front : ℕ → Option (List ℕ) → Option (List ℕ) → Option (List ℕ)
with_front n None played = None
with_front n (Some bytes) played = after_adding played (take n bytes)

-- n frames on
abbrev pub played_on : ℕ → DeviceState → DeviceState
played_on n d = record d {
  consumed = d.consumed + n;
  buffer = without_front (n * d.frame) d.buffer;
  played = with_front (n * d.frame) d.buffer d.played;
}

-- the next sync, where visible, consumes these n of the frames that wait
abbrev pub Consumes : Option Next → ℕ → ℕ → Type 0
Consumes None waiting n = ⊤
Consumes (Some (consume k)) waiting n = n ≡ min k waiting
Consumes (Some fail) waiting n = ⊥

-- the next sync, where visible, fails
abbrev pub MayFail : Option Next → Type 0
MayFail None = ⊤
MayFail (Some (consume k)) = ⊥
MayFail (Some fail) = ⊤

-- the next sync visibly fails
abbrev pub is_failing : Option Next → Bool
is_failing None = false
is_failing (Some (consume k)) = false
is_failing (Some fail) = true

-- a sync that answers this count of frames consumed; how many the next one consumes is open, but not whether it visibly fails
pub record Plays (consumed : ℕ) (before after : DeviceState) : Type 0 where
  pub going : IsFalse before.failed
  pub forward : before.consumed ≤ consumed
  pub within : consumed ≤ before.filled
  pub visible : Consumes before.next (before.filled - before.consumed) (consumed - before.consumed)
  pub steady : is_failing after.next ≡ is_failing before.next
  pub state : after ≡ record (played_on (consumed - before.consumed) before) { next = after.next }

-- after a sync that failed once it had played n more bytes, with this count of faults
abbrev pub failed_at : ℕ → ℕ → DeviceState → DeviceState
failed_at n faults d = record d { played = with_front n d.buffer d.played; faults = faults; failed = true }

pub record Fails (before after : DeviceState) : Type 0 where
  pub bytes : ℕ
  pub faults : ℕ
  pub counted : Rose before.faults faults
  pub visible : MayFail before.next
  pub state : after ≡ record (failed_at bytes faults before) { next = after.next }

-- ---- a put

-- how many frames these bytes are
abbrev pub frames_in : DeviceState → List ℕ → ℕ
frames_in d bytes = length bytes / d.frame

-- frames may be put at this place: not too near, with no gap, whole, and no more than fit
pub record IsPut (d : DeviceState) (at : ℕ) (bytes : List ℕ) : Type 0 where
  pub whole : length bytes ≡ frames_in d bytes * d.frame
  pub not_near : min d.filled (d.consumed + d.guard) ≤ at
  pub no_gap : at ≤ d.filled
  pub fit : at + frames_in d bytes ≤ d.consumed + d.depth
  pub countable : at + frames_in d bytes ≤ 2 ^ 61

-- the bytes from place n on were rewritten, where they are visible
abbrev pub put_from : ℕ → List ℕ → Option (List ℕ) → Option (List ℕ)
put_from n more None = None
put_from n more (Some bytes) = Some (take n bytes ++ more)

-- the frames from this one on were rewritten
abbrev pub put_at : ℕ → List ℕ → DeviceState → DeviceState
put_at at bytes d = record d {
  filled = at + frames_in d bytes;
  buffer = put_from ((at - d.consumed) * d.frame) bytes d.buffer;
}
