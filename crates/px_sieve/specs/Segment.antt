-- What the bytes of a connection are cut into, in their order: the whole frames, and the descriptor that breaks a rule, if there is one.
use Rattle.std.specs.Prelude.{ℕ, ◌+◌, List, [], ◌∷◌, ◌++◌, length, map, take, drop}
use Rattle.px_frame.specs.declared.frame.Frame.{Frame}
use Rattle.px_frame.specs.declared.frame.Body.{Body}
use Rattle.px_frame.specs.declared.frame.Body.TheVariants.{Control, Write}
use Rattle.px_frame.specs.Reading.{Ending, Unfinished, Broken}
use Rattle.px_frame.specs.Meaning.{frames_in, ending_in}
use Rattle.px_sieve.specs.declared.segment.Segment.{Segment}
use Rattle.px_sieve.specs.declared.segment.Segment.TheVariants.{Whole, Faulty}

abbrev pub payload_of : Body → List ℕ
payload_of (Control packet) = packet
payload_of (Write stream offset seek bytes) = bytes

-- the bytes of a frame: its descriptor has twenty
abbrev pub size_of : Frame → ℕ
size_of frame = 20 + length (payload_of frame.body)

abbrev pub size_of_all : List Frame → ℕ
size_of_all [] = 0
size_of_all (frame ∷ frames) = size_of frame + size_of_all frames

-- the bytes after the whole frames
abbrev pub rest_in : List ℕ → List ℕ
rest_in bytes = drop (size_of_all (frames_in bytes)) bytes

-- where a rule is broken, the descriptor that breaks it
abbrev pub faulty_at : List ℕ → Ending → List Segment
faulty_at rest Unfinished = []
faulty_at rest (Broken fault at) = Faulty (take 20 rest) fault at ∷ []

-- the segments of all bytes of a connection
abbrev pub segments_in : List ℕ → List Segment
segments_in bytes = map Whole (frames_in bytes) ++ faulty_at (rest_in bytes) (ending_in bytes)

-- those that `bytes` newly has, after `received`
abbrev pub new_segments : List ℕ → List ℕ → List Segment
new_segments received bytes = drop (length (segments_in received)) (segments_in (received ++ bytes))
