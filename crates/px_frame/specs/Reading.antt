-- The meaning of a whole list of bytes: its frames, and how it ends.
use Rattle.std.specs.Prelude.{◌≡◌, ℕ, ◌+◌, ◌<◌, ◌⊎◌, List, [], ◌∷◌, ◌++◌, length, Some, None}
use Rattle.std.specs.List.{flat_map, AllByRecursion}
use Rattle.px_frame.specs.declared.descriptor.Descriptor.{Descriptor}
use Rattle.px_frame.specs.declared.fault.FrameFault.{FrameFault}
use Rattle.px_frame.specs.declared.frame.Frame.{Frame}
use Rattle.px_frame.specs.Descriptor.{descriptor_bytes, HasWords, broken_rule}
use Rattle.px_frame.specs.Frame.{Wire, wire_bytes, IsFrame, offset_at, frame_of}

-- the meaning of consecutive frames, from this offset on
abbrev pub frames_from : ℕ → List Wire → List Frame
frames_from start [] = []
frames_from start (w ∷ ws) = frame_of start w ∷ frames_from (start + length (wire_bytes w)) ws

-- from the offset `start` on, the bytes are whole frames, and from the offset `after` on the rest
pub record Splits (start : ℕ) (bytes : List ℕ) (frames : List Frame) (after : ℕ) (rest : List ℕ) : Type 0 where
  pub whole : List Wire
  pub each : AllByRecursion IsFrame whole
  pub bytes_are : bytes ≡ flat_map wire_bytes whole ++ rest
  pub frames_are : frames ≡ frames_from start whole
  pub after_is : after ≡ start + length (flat_map wire_bytes whole)

-- less than a whole frame, which breaks no rule so far: less than a descriptor, or a descriptor that breaks none and less of its payload
abbrev pub IsBegun : List ℕ → Type 0
IsBegun rest =
    (length rest < 20)
    ⊎ ((d : Descriptor) × (part : List ℕ) × HasWords d × (rest ≡ descriptor_bytes d ++ part)
    × (broken_rule d ≡ None) × (length part < d.length))

-- a descriptor that breaks this rule first, in this one of its bytes, and whatever follows
abbrev pub IsBroken : List ℕ → FrameFault → ℕ → Type 0
IsBroken rest fault place =
    (d : Descriptor) × (later : List ℕ) × HasWords d × (rest ≡ descriptor_bytes d ++ later)
    × (broken_rule d ≡ Some (fault, place))

-- how a list of bytes ends: within a frame, or by a fault at an offset
pub data Ending : Type 0 where
  Unfinished : Ending
  Broken : FrameFault → ℕ → Ending

-- the rest that begins at this offset has this ending
abbrev pub IsEnding : ℕ → List ℕ → Ending → Type 0
IsEnding after rest Unfinished = IsBegun rest
IsEnding after rest (Broken fault at) = (place : ℕ) × IsBroken rest fault place × (at ≡ offset_at (after + place))

-- these bytes, all that there are, have these frames and this ending
abbrev pub IsRead : List ℕ → List Frame → Ending → Type 0
IsRead bytes frames ending =
    (after : ℕ) × (rest : List ℕ) × Splits 0 bytes frames after rest × IsEnding after rest ending

-- the bytes have exactly one list of frames and one ending
abbrev pub HasOneReading : List ℕ → Type 0
HasOneReading bytes =
    (frames : List Frame) × (ending : Ending) × IsRead bytes frames ending
    × ((others : List Frame) (other : Ending) → IsRead bytes others other → (others ≡ frames) × (other ≡ ending))
