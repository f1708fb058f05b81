-- The frames that a stream holds: a finite map from index to frame, as a list of places from the read index on. A place is the frame held there, or a
-- hole. Own: PulseAudio's pulsecore/memblockq.c has a list of blocks, whose holes are silence.
use Rattle.std.specs.Prelude.{ℕ, zero, suc, ◌+◌, ◌-◌, ◌<◌, List, [], ◌∷◌, ◌++◌, map, take, drop, replicate, length, Option, Some, None, IsSome, ℤ, int_lt, if◌then◌else◌}
use Rattle.std.specs.List.{range_with_len}
use Rattle.px_model.specs.Index.{above, onward}
use Rattle.px_model.specs.Frame.{Frame}

-- the frame held at place k, if any
abbrev pub place : List (Option Frame) → ℕ → Option Frame
place [] k = None
place (o ∷ held) zero = o
place (o ∷ held) (suc k) = place held k

-- the last place, if there is one, is no hole: so equal maps are equal lists
abbrev pub IsTrimmed : List (Option Frame) → Type 0
IsTrimmed held = 0 < length held → IsSome (place held (length held - 1))

-- frames written over the places from p on: the places below p, holes where there are none, the frames, and the places past them
abbrev pub overlay : ℕ → List Frame → List (Option Frame) → List (Option Frame)
overlay p [] held = held
overlay p (f ∷ frames) held =
    (take p held ++ replicate (p - length held) None) ++ (map (λ x. Some x) (f ∷ frames) ++ drop (p + length (f ∷ frames)) held)

-- frames written at an index: those below the read index are dropped, the others replace what is held
abbrev pub written_over : ℤ → ℤ → List Frame → List (Option Frame) → List (Option Frame)
written_over read index frames held = overlay (above index read) (drop (above read index) frames) held

-- ---- the map that the list represents

-- the frame held at index i, for a list that begins at the read index
abbrev pub frame_of : ℤ → List (Option Frame) → ℤ → Option Frame
frame_of read held i = if int_lt i read then None else place held (above i read)

-- the list of a map's n places from the read index on
abbrev pub places_of : ℤ → ℕ → (ℤ → Option Frame) → List (Option Frame)
places_of read n frames = map (λ k. frames (onward read k)) (range_with_len 0 n)
