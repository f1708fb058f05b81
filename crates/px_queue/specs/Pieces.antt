-- Pieces of bytes, each laid at a byte index: which byte lies at a byte index. Byte indices count from the least index on.
use Rattle.std.specs.Prelude.{ℕ, ◌+◌, ◌-◌, ◌≤◌, nat_lt, List, [], ◌∷◌, length, take, drop, slice_get, Option, Some, None, if◌then◌else◌}

pub record Piece : Type 0 where
  pub at : ℕ
  pub bytes : List ℕ

-- one past its last byte
abbrev pub end_of : Piece → ℕ
end_of p = p.at + length p.bytes

-- its byte at index i, if it has one there
abbrev pub byte_in : Piece → ℕ → Option ℕ
byte_in p i = if nat_lt i p.at then None else slice_get p.bytes (i - p.at)

-- the first of both that is some
abbrev pub first_of : Option ℕ → Option ℕ → Option ℕ
first_of None o = o
first_of (Some b) o = Some b

-- the byte at index i, of the first piece that has one there
abbrev pub byte_at : List Piece → ℕ → Option ℕ
byte_at [] i = None
byte_at (p ∷ pieces) i = first_of (byte_in p i) (byte_at pieces i)

-- each begins at or past the end of the one before it; `low` is at or before the first, `high` at or past the end of all
abbrev pub Rise : ℕ → ℕ → List Piece → Type 0
Rise low high [] = low ≤ high
Rise low high (p ∷ pieces) = (low ≤ p.at) × Rise (end_of p) high pieces

-- the last piece; an empty one where there is none
abbrev pub last_of : List Piece → Piece
last_of [] = record { at = 0; bytes = [] }
last_of (p ∷ []) = p
last_of (p ∷ q ∷ pieces) = last_of (q ∷ pieces)

-- all pieces but the last
abbrev pub front_of : List Piece → List Piece
front_of [] = []
front_of (p ∷ []) = []
front_of (p ∷ q ∷ pieces) = p ∷ front_of (q ∷ pieces)

-- the part before a byte index inside, and the part from there on
abbrev pub head_to : Piece → ℕ → Piece
head_to p to = record { at = p.at; bytes = take (to - p.at) p.bytes }

abbrev pub tail_from : Piece → ℕ → Piece
tail_from p from = record { at = from; bytes = drop (from - p.at) p.bytes }
