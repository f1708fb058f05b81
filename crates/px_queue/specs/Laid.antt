-- Chunks: parts of blocks on a shelf, laid from a byte index on.
use Rattle.std.specs.Prelude.{◌≡◌, ℕ, ◌+◌, ◌^◌, ◌≤◌, ◌==◌, List, [], ◌∷◌, length, map, take, drop, if◌then◌else◌}
use Rattle.std.specs.List.{AllByRecursion}
use Rattle.px_block.specs.Shelved.{Shelves, under, references_to, one_of, bytes_of}
use Rattle.px_queue.specs.Pieces.{Piece}

-- `len` bytes of the block under `key`, from byte `place` of it on, laid at byte index `at`
pub record Laid : Type 0 where
  pub at : ℕ
  pub key : ℕ
  pub place : ℕ
  pub len : ℕ

-- no byte index lies past this one
abbrev pub TOP : ℕ
TOP = 2 ^ 100

-- its bytes
abbrev pub piece_of : Shelves → Laid → Piece
piece_of s c = record { at = c.at; bytes = take c.len (drop c.place (bytes_of (under s c.key))) }

abbrev pub pieces_of : Shelves → List Laid → List Piece
pieces_of s chunks = map (piece_of s) chunks

-- its block has all its bytes
abbrev pub IsOn : Shelves → Laid → Type 0
IsOn s c = c.place + c.len ≤ length (bytes_of (under s c.key))

-- how many of these refer to the block under a key
abbrev pub refs_of : ℕ → List Laid → ℕ
refs_of key [] = 0
refs_of key (c ∷ chunks) = (if c.key == key then 1 else 0) + refs_of key chunks

-- each chunk lies in a block of the shelf, which counts its chunks; and the shelf has no other block
pub record IsTied (s : Shelves) (chunks : List Laid) : Type 0 where
  pub on : AllByRecursion (IsOn s) chunks
  pub counted : (key : ℕ) → references_to (under s key) ≡ refs_of key chunks
  pub used : (key : ℕ) → one_of (under s key) ≤ references_to (under s key)

-- chunks in a line, and for how many in all it has room
pub record Lined : Type 0 where
  pub items : List Laid
  pub capacity : ℕ

-- chunks before a place and those after it (`behind`), and for how many in all there is room
pub record Parted : Type 0 where
  pub before : List Laid
  pub behind : List Laid
  pub capacity : ℕ

-- a list of chunks: the pieces before the byte index of a write and those after it (`behind`), how many blocks they lie in, and for how many more
-- chunks and blocks there is room
pub record Chunked : Type 0 where
  pub before : List Piece
  pub behind : List Piece
  pub blocks : ℕ
  pub room : ℕ
  pub block_room : ℕ
