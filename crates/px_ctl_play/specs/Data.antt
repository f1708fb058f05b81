-- Frames that a client writes (PulseAudio: `pstream_memblock_callback` of pulsecore/protocol-native.c; that data which isn't whole frames is ignored
-- is own).
use Rattle.std.specs.Prelude.{ℕ, ◌/◌, ◌%◌, Bool, cond, ◌&&◌, nat_eq, nat_lt, ℤ, pos, unsigned_abs, List, [], ◌∷◌, length, Option, None, Some}
use Rattle.std.specs.Int.{int_div_euclid, int_rem_euclid}
use Rattle.px_sample.specs.Format.{frame_size_of}
use Rattle.px_flat.specs.FlatVolume.{FlatGroup}
use Rattle.px_msg.specs.declared.message.Msg.{Msg}
use Rattle.px_msg.specs.declared.message.Msg.TheVariants.{Write}
use Rattle.px_outcome.specs.declared.change.Change.TheVariants.{Posted}
use Rattle.px_outcome.specs.declared.input.Input.{Input}
use Rattle.px_outcome.specs.Outcome.{OutcomeParts, idle, changing}
use Rattle.px_ctl_play.specs.declared.data.Frames.{Frames}

-- `bytes` bytes at byte `offset` are whole frames of `size` bytes and begin at a frame; a frame has a byte at least
abbrev pub are_frames : ℕ → ℤ → ℕ → Bool
are_frames size offset bytes = nat_lt 0 size && nat_eq (bytes % size) 0 && nat_eq (unsigned_abs (int_rem_euclid offset (pos size))) 0

-- the frames of `size` bytes that they are
abbrev pub frames_in : ℕ → ℤ → ℕ → Option Frames
frames_in size offset bytes =
    cond (are_frames size offset bytes) (Some (record { offset = int_div_euclid offset (pos size); count = bytes / size })) None

-- the frames of a stream that they are
abbrev pub frames_of : Input → ℤ → ℕ → Option Frames
frames_of x offset bytes = frames_in (frame_size_of x.spec) offset bytes

-- the message that posts these frames to a stream's sink
abbrev pub write : {P : Type 0} → Input → Frames → ℕ → List ℕ → Msg P
write x frames seek bytes = Write x.index seek frames.offset frames.count bytes

abbrev pub written : {P : Type 0} → Option Frames → Input → ℕ → List ℕ → OutcomeParts (Msg P) FlatGroup
written None x seek bytes = idle
written (Some frames) x seek bytes = changing (Posted x.index (write x frames seek bytes) ∷ [])

-- data on a channel; ignored where it is of no stream of the connection, and where it isn't whole frames
abbrev pub data_for : {P : Type 0} → Option Input → ℤ → ℕ → List ℕ → OutcomeParts (Msg P) FlatGroup
data_for None offset seek bytes = idle
data_for (Some x) offset seek bytes = written (frames_of x offset (length bytes)) x seek bytes
