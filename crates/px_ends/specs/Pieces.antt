-- Bytes that wait for a write.
use Rattle.std.specs.Prelude.{ℕ, List}

pub record Waiting : Type 0 where
  pub bytes : List ℕ
  -- how many writes to it have failed, for want of memory
  pub faults : ℕ

-- the bytes of a full piece
abbrev pub PIECE : ℕ
PIECE = 65536
