-- A queue as plain numbers and bytes.
use Rattle.std.specs.Prelude.{ℕ, ℤ, List, [], ◌∷◌, flat_map, length, Option, None, Some}
use Rattle.std.specs.List.{range_with_len}
use Rattle.px_annals.specs.declared.stream.PlainFrame.{PlainFrame}
use Rattle.px_annals.specs.declared.stream.PlainQueue.{PlainQueue}
use Rattle.px_model.specs.Frame.{Frame}
use Rattle.px_model.specs.Held.{place}
use Rattle.px_model.specs.Index.{onward}
use Rattle.px_model.specs.Queue.{Queue}

-- the frame held at an index; none in a hole
abbrev pub frame_at : ℤ → Option Frame → List PlainFrame
frame_at index None = []
frame_at index (Some frame) = record { index = index; bytes = frame } ∷ []

-- the frames at the first `count` places from the read index on
abbrev pub frames_up_to : Queue → ℕ → List PlainFrame
frames_up_to q count = flat_map (λ k. frame_at (onward q.read k) (place q.held k)) (range_with_len 0 count)

-- the frames that are held, each with its index, both indices, and prebuffering
abbrev pub plain_of : Queue → PlainQueue
plain_of q = record { frames = frames_up_to q (length q.held); read = q.read; write = q.write; hold = q.hold; prebuf = q.prebuf }
