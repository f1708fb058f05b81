-- What a part of a frame holds, and what a step of the decoder does.
use Rattle.std.specs.Prelude.{◌≡◌, ◌≢◌, ℕ, ◌+◌, ◌<◌, ◌≤◌, List, [], ◌++◌, length, take, drop, Some, None, vec_capacity}
use Rattle.std.specs.Option.{option_to_list}
use Rattle.px_frame.specs.declared.descriptor.Descriptor.{Descriptor}
use Rattle.px_types.specs.declared.limits.TheConstants.{CONTROL_CHANNEL}
use Rattle.px_frame.specs.declared.frame.Body.{Body}
use Rattle.px_frame.specs.declared.stage.Part.{Part}
use Rattle.px_frame.specs.declared.stage.Part.TheVariants.{Head, Control, Write}
use Rattle.px_frame.specs.declared.stage.Step.{Step}
use Rattle.px_frame.specs.declared.stage.Step.TheVariants.{On, Broken}
use Rattle.px_frame.specs.Descriptor.{descriptor_bytes, HasWords, broken_rule}
use Rattle.px_frame.specs.Frame.{offset_at}
use Rattle.px_frame.specs.Feeding.{Feeds, Breaks}

-- the bytes of the frame that have come
abbrev pub held_of : Part → List ℕ
held_of (Head bytes got) = take got bytes
held_of (Control d bytes missing) = descriptor_bytes d ++ bytes.items
held_of (Write d bytes missing) = descriptor_bytes d ++ bytes

-- of the payload whose length the descriptor gives, `got` bytes have come and `missing` haven't
pub record IsAwaiting (d : Descriptor) (got missing : ℕ) : Type 0 where
  pub words : HasWords d
  pub lawful : broken_rule d ≡ None
  pub whole : got + missing ≡ d.length
  pub some : 0 < missing

-- less than a frame has come, on the right channel, and there is room for a whole control packet
abbrev pub IsPart : Part → Type 0
IsPart (Head bytes got) = (length bytes ≡ 20) × (got < 20)
IsPart (Control d bytes missing) =
    IsAwaiting d (length bytes.items) missing × (d.channel ≡ CONTROL_CHANNEL)
    × (length bytes.items + missing ≤ vec_capacity bytes)
IsPart (Write d bytes missing) = IsAwaiting d (length bytes) missing × (d.channel ≢ CONTROL_CHANNEL)

-- a step from the bytes held: it takes some of the piece, and completes at most one frame, or finds a fault
abbrev pub IsStep : ℕ → List ℕ → List ℕ → Step → Type 0
IsStep start held piece (On part start' taken frame) =
    Feeds start held piece (option_to_list frame) start' (held_of part) (drop taken piece)
    × IsPart part × (0 < taken) × (taken ≤ length piece)
IsStep start held piece (Broken fault at) = Breaks start held piece [] fault at

-- the step that completes a frame with this body
abbrev pub IsWhole : Descriptor → Body → ℕ → ℕ → Step → Type 0
IsWhole d body start taken step =
    (part : Part) × (held_of part ≡ []) × IsPart part
    × (let at = offset_at (start + 20) in step ≡ On part (offset_at (at + d.length)) taken (Some (record { at = at; body = body })))
