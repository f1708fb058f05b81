-- The reading of a whole list of bytes, frame by frame from its front: its only frames and its only ending.
use Rattle.std.specs.Prelude.{ℕ, zero, suc, ◌+◌, cond, nat_lt, List, [], ◌∷◌, length, take, drop, Option, Some, None}
use Rattle.px_frame.specs.declared.descriptor.Descriptor.{Descriptor}
use Rattle.px_frame.specs.declared.fault.FrameFault.{FrameFault}
use Rattle.px_frame.specs.declared.frame.Frame.{Frame}
use Rattle.px_frame.specs.Descriptor.{descriptor_in, broken_rule}
use Rattle.px_frame.specs.Frame.{offset_at, frame_of}
use Rattle.px_frame.specs.Reading.{Ending, Unfinished, Broken}

pub record Meaning : Type 0 where
  pub frames : List Frame
  pub ending : Ending

-- less than a frame is left
abbrev pub unfinished : Meaning
unfinished = record { frames = []; ending = Unfinished }

-- a descriptor at an offset, with the bytes after it: the rule that it breaks, or its frame and the meaning of what follows, if all of its
-- payload is there
abbrev pub described : ℕ → Descriptor → List ℕ → Option (FrameFault × ℕ) → Meaning → Meaning
described start d behind (Some rule) later = record { frames = []; ending = Broken rule.0 (offset_at (start + rule.1)) }
described start d behind None later = cond (nat_lt (length behind) d.length) unfinished
    (record { frames = frame_of start (record { descriptor = d; payload = take d.length behind }) ∷ later.frames; ending = later.ending })

-- the bytes from an offset on. Each frame has at least twenty bytes, so the number of bytes bounds the number of frames
abbrev pub meant_from : ℕ → ℕ → List ℕ → Meaning
meant_from zero start bytes = unfinished
meant_from (suc most) start bytes = cond (nat_lt (length bytes) 20) unfinished
    (described start (descriptor_in (take 20 bytes)) (drop 20 bytes) (broken_rule (descriptor_in (take 20 bytes)))
    (meant_from most (start + (20 + (descriptor_in (take 20 bytes)).length)) (drop (descriptor_in (take 20 bytes)).length (drop 20 bytes))))

-- all bytes of a connection
unfoldable pub meaning_of : List ℕ → Meaning
meaning_of bytes = meant_from (suc (length bytes)) 0 bytes

abbrev pub frames_in : List ℕ → List Frame
frames_in bytes = (meaning_of bytes).frames

abbrev pub ending_in : List ℕ → Ending
ending_in bytes = (meaning_of bytes).ending
