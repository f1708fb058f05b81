-- A block as contracts see it.
use Rattle.std.specs.Prelude.{ℕ, List, map}

pub record HeldBlock : Type 0 where
  pub bytes : List ℕ
  -- how many more bytes it takes without memory
  pub room : ℕ

-- the bytes of each block
abbrev pub contents : List HeldBlock → List (List ℕ)
contents blocks = map HeldBlock.bytes blocks
