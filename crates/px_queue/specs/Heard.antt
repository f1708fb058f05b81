-- What is heard of a queue, and how much of it a write leaves unaltered.
use Rattle.std.specs.Prelude.{ℕ, min, ℤ, Bool, true, false, not, ◌||◌, ◌==◌, List, length, Option, None, if◌then◌else◌}
use Rattle.px_model.specs.Frame.{Frame}
use Rattle.px_model.specs.Held.{place}
use Rattle.px_model.specs.Index.{above}
use Rattle.px_model.specs.Queue.{Queue, is_short}
use Rattle.px_model.specs.Write.{Outcome, stored, overflow, outside, queue_with}

-- the frame heard k ahead of the read index: none in a hole, past the edge, or while the queue is short
abbrev pub heard_of : Queue → ℕ → Option Frame
heard_of q k = if is_short q then None else place q.held k

-- nothing is heard of it: no frame is held, or it is short
abbrev pub is_silent : Queue → Bool
is_silent q = length q.held == 0 || is_short q

abbrev pub is_other : Bool → Bool → Bool
is_other true b = not b
is_other false b = b

-- how many of the next n frames a write `ahead` frames past the read index leaves as they are: those before it where it is stored, else all
abbrev pub left_by : Outcome → ℕ → ℕ → ℕ
left_by stored ahead n = min ahead n
left_by overflow ahead n = n
left_by outside ahead n = n

-- how many of the next n frames are heard as before once frames are written at index p: none where the queue was short and isn't, or is and wasn't
abbrev pub unaltered_by : Outcome → Queue → ℤ → List Frame → ℕ → ℕ
unaltered_by outcome q p frames n = if is_other (is_short (queue_with outcome q p frames)) (is_short q) then 0 else left_by outcome (above p q.read) n
