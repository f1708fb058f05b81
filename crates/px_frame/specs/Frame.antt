-- A frame on the wire, and its meaning.
use Rattle.std.specs.Prelude.{◌≡◌, ℕ, ◌+◌, ◌-◌, ◌^◌, ◌<◌, ◌≤◌, ◌≢◌, min, List, ◌++◌, length, if◌then◌else◌, ◌==◌, None}
use Rattle.px_frame.specs.declared.descriptor.Descriptor.{Descriptor}
use Rattle.px_types.specs.declared.limits.TheConstants.{CONTROL_CHANNEL, MAX_PAYLOAD}
use Rattle.px_frame.specs.declared.frame.Frame.{Frame}
use Rattle.px_frame.specs.declared.frame.Body.{Body}
use Rattle.px_frame.specs.declared.frame.Body.TheVariants.{Control, Write}
use Rattle.px_frame.specs.Descriptor.{descriptor_bytes, HasWords, broken_rule, byte_offset, seek_of}

-- a descriptor and a payload
pub record Wire : Type 0 where
  pub descriptor : Descriptor
  pub payload : List ℕ

-- the bytes of both
abbrev pub wire_bytes : Wire → List ℕ
wire_bytes w = descriptor_bytes w.descriptor ++ w.payload

-- a well-formed frame: its descriptor breaks no rule, and its payload has the length that the descriptor gives
pub record IsFrame (w : Wire) : Type 0 where
  pub words : HasWords w.descriptor
  pub lawful : broken_rule w.descriptor ≡ None
  pub whole : length w.payload ≡ w.descriptor.length

-- an offset in the bytes of a connection stays at 2 ^ 64 - 1 once it reaches that
abbrev pub offset_at : ℕ → ℕ
offset_at n = min n (2 ^ 64 - 1)

-- the meaning of a payload by its descriptor
abbrev pub body_of : Descriptor → List ℕ → Body
body_of d payload =
    if d.channel == CONTROL_CHANNEL then Control payload
    else Write d.channel (byte_offset d) (seek_of d) payload

-- a possible body: 1 to 16,777,216 bytes, and for a stream one of four seek modes
abbrev pub IsBody : Body → Type 0
IsBody (Control bytes) = (0 < length bytes) × (length bytes ≤ MAX_PAYLOAD)
IsBody (Write stream offset seek bytes) =
    (stream ≢ CONTROL_CHANNEL) × (seek ≤ 3) × (0 < length bytes) × (length bytes ≤ MAX_PAYLOAD)

-- the meaning of a frame that begins at this offset: its own offset is that of its payload
abbrev pub frame_of : ℕ → Wire → Frame
frame_of start w = record { at = offset_at (start + 20); body = body_of w.descriptor w.payload }
