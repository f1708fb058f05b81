-- The bytes that wait in a device in memory.
use Rattle.std.specs.Prelude.{ℕ, List}

-- the most bytes that may wait, and those that do
pub record BufferedBytes : Type 0 where
  pub room : ℕ
  pub bytes : List ℕ
