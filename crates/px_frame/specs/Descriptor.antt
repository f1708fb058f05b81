-- The descriptor before a frame's payload: its spelling, and its rules.
use Rattle.std.specs.Prelude.{ℕ, ◌+◌, ◌*◌, ◌/◌, ◌%◌, ◌^◌, ◌<◌, List, ◌++◌, if◌then◌else◌, ◌==◌, nat_lt, nat_le, take, drop, Option, Some, None, ℤ, slice_index}
use Rattle.std.specs.Int.{to_be_bytes, from_be_bytes, cast_signed, cast_unsigned, w32, w64}
use Rattle.px_frame.specs.declared.descriptor.Descriptor.{Descriptor}
use Rattle.px_types.specs.declared.limits.TheConstants.{MAX_PAYLOAD, CONTROL_CHANNEL}
use Rattle.px_frame.specs.declared.fault.FrameFault.{FrameFault}
use Rattle.px_frame.specs.declared.fault.FrameFault.TheVariants.{ZeroLength, TooLong, PacketFlags, SharedMemory, SeekMode}

-- its twenty bytes: five words, each with its high byte first
unfoldable pub descriptor_bytes : Descriptor → List ℕ
descriptor_bytes d =
    to_be_bytes w32 d.length ++ (to_be_bytes w32 d.channel
    ++ (to_be_bytes w32 d.offset_high ++ (to_be_bytes w32 d.offset_low ++ to_be_bytes w32 d.flags)))

-- each word fits its four bytes
pub record HasWords (d : Descriptor) : Type 0 where
  pub length : d.length < 2 ^ 32
  pub channel : d.channel < 2 ^ 32
  pub offset_high : d.offset_high < 2 ^ 32
  pub offset_low : d.offset_low < 2 ^ 32
  pub flags : d.flags < 2 ^ 32

-- the first rule that it breaks, and the offset in it of the word that does: the length, or the flags
abbrev pub broken_rule : Descriptor → Option (FrameFault × ℕ)
broken_rule d =
    if d.length == 0 then Some (ZeroLength, 0)
    else if nat_lt MAX_PAYLOAD d.length then Some (TooLong, 0)
    else if d.channel == CONTROL_CHANNEL then (if d.flags == 0 then None else Some (PacketFlags, 16))
    else if nat_le (2 ^ 24) d.flags then Some (SharedMemory, 16)
    else if nat_lt 3 (d.flags % 256) then Some (SeekMode, 16)
    else None

-- both offset words as one signed number of 64 bits
abbrev pub byte_offset : Descriptor → ℤ
byte_offset d = cast_signed w64 (d.offset_high * 2 ^ 32 + d.offset_low)

-- the seek mode is the low byte of the flags
abbrev pub seek_of : Descriptor → ℕ
seek_of d = d.flags % 256

-- of a control packet of this many bytes
abbrev pub control_descriptor : ℕ → Descriptor
control_descriptor n = record { length = n; channel = CONTROL_CHANNEL; offset_high = 0; offset_low = 0; flags = 0 }

-- of a write of n bytes to a stream, at a byte offset from the origin of the seek mode
abbrev pub data_descriptor : ℕ → ℕ → ℤ → ℕ → Descriptor
data_descriptor n stream offset seek =
    let bits = cast_unsigned w64 offset in
    record { length = n; channel = stream; offset_high = bits / 2 ^ 32; offset_low = bits % 2 ^ 32; flags = seek }

-- each is a byte
abbrev pub AreBytes : List ℕ → Type 0
AreBytes bytes = (i : ℕ) → slice_index bytes i < 256

-- the number in the four bytes from this place on
abbrev pub word_at : ℕ → List ℕ → ℕ
word_at k bytes = from_be_bytes w32 (take 4 (drop k bytes))

-- the descriptor that twenty bytes spell
unfoldable pub descriptor_in : List ℕ → Descriptor
descriptor_in bytes = record {
  length = word_at 0 bytes;
  channel = word_at 4 bytes;
  offset_high = word_at 8 bytes;
  offset_low = word_at 12 bytes;
  flags = word_at 16 bytes;
}
