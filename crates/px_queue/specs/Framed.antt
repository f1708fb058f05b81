-- Frames, by their bytes.
use Rattle.std.specs.Prelude.{ℕ, zero, suc, ◌+◌, ◌*◌, min, ◌==◌, ◌≤◌, ◌≡◌, ℤ, ◌≤ℤ◌, Bool, List, [], ◌∷◌, Option, Some, None, if◌then◌else◌}
use Rattle.px_model.specs.Frame.{Frame}
use Rattle.px_model.specs.Held.{places_of}
use Rattle.px_model.specs.Index.{above, onward, FIRST}
use Rattle.px_model.specs.Queue.{Queue}
use Rattle.px_queue.specs.Laid.{Chunked, TOP}
use Rattle.px_queue.specs.Pieces.{Piece, byte_at, Rise}

-- a byte put before others, where both are there
abbrev pub joined : Option ℕ → Option (List ℕ) → Option (List ℕ)
joined None o = None
joined (Some b) None = None
joined (Some b) (Some bytes) = Some (b ∷ bytes)

-- n bytes from byte index i on, where all are there
abbrev pub bytes_from : (ℕ → Option ℕ) → ℕ → ℕ → Option (List ℕ)
bytes_from f i zero = Some []
bytes_from f i (suc n) = joined (f i) (bytes_from f (i + 1) n)

-- the byte index of the first byte of the frame at an index
abbrev pub byte_index : ℕ → ℤ → ℕ
byte_index size i = above i FIRST * size

-- the frame at an index, where all its bytes are there
abbrev pub framed : ℕ → List Piece → ℤ → Option Frame
framed size pieces i = bytes_from (byte_at pieces) (byte_index size i) size

-- the frames and holes from the read index on, `count` places
abbrev pub held_from : ℕ → List Piece → ℤ → ℕ → List (Option Frame)
held_from size pieces read count = places_of read count (framed size pieces)

-- the queue with these pieces
abbrev pub queue_of : ℕ → List Piece → ℤ → ℕ → ℤ → Bool → ℕ → Queue
queue_of size pieces read count write hold prebuf = record { held = held_from size pieces read count; read = read; write = write; hold = hold; prebuf = prebuf }

-- no frame is held at or past `count` places from the read index
abbrev pub EndsBy : ℕ → List Piece → ℤ → ℕ → Type 0
EndsBy size pieces read count = (i : ℤ) → onward read count ≤ℤ i → framed size pieces i ≡ None

-- the chunks of a queue, with room for `writes` writes with `brought` blocks in all: each write may split one chunk in two, and brings one a block
pub record IsLaid (size : ℕ) (c : Chunked) (read : ℤ) (count writes brought : ℕ) : Type 0 where
  pub some : 1 ≤ size
  pub rising : Rise 0 TOP c.before
  pub rest : c.behind ≡ []
  pub ends : EndsBy size c.before read count
  pub room : writes + brought ≤ c.room
  pub block_room : brought ≤ c.block_room

-- how far a read index goes in k frames, with `room` frames up to the last index and `left` frames waiting
abbrev pub step_by : ℕ → ℕ → ℕ → ℕ → ℕ
step_by prebuf k room left = if prebuf == 0 then min k room else min k left
