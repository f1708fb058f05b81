-- A recorder that holds its entries in memory.
use Rattle.std.specs.Prelude.{ℕ, List}
use Rattle.px_annals.specs.History.{Limit}

pub record MemoryRecorder (E : Type 0) : Type 0 where
  -- its entries, in order
  pub held : List E
  -- how many more entries fit without taking memory
  pub room : ℕ
  -- how much it may hold
  pub limit : Limit
  -- how often it was found full
  pub fulls : ℕ
