-- The bytes of a frame, and bytes that are whole frames.
use Rattle.std.specs.Prelude.{ℕ, ◌^◌, ◌<◌, List, [], ◌++◌, length, FitsSigned, ⊤}
use Rattle.std.specs.Int.{w64}
use Rattle.px_frame.specs.declared.frame.Frame.{Frame}
use Rattle.px_frame.specs.declared.frame.Body.{Body}
use Rattle.px_frame.specs.declared.frame.Body.TheVariants.{Control, Write}
use Rattle.px_frame.specs.Descriptor.{descriptor_bytes, control_descriptor, data_descriptor}
use Rattle.px_frame.specs.Reading.{Splits}

-- a body's descriptor, with all bits clear that mean nothing, and its payload
abbrev pub spelling_of : Body → List ℕ
spelling_of (Control packet) = descriptor_bytes (control_descriptor (length packet)) ++ packet
spelling_of (Write stream offset seek bytes) = descriptor_bytes (data_descriptor (length bytes) stream offset seek) ++ bytes

-- its numbers fit their words: a stream in 32 bits, an offset in 64 with its sign
abbrev pub HasNumbers : Body → Type 0
HasNumbers (Control packet) = ⊤
HasNumbers (Write stream offset seek bytes) = (stream < 2 ^ 32) × FitsSigned w64 offset

-- the bytes are these whole frames, with nothing after them
abbrev pub AreWhole : List ℕ → List Frame → Type 0
AreWhole bytes frames = Splits 0 bytes frames (length bytes) []
