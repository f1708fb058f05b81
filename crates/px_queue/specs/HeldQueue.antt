-- A queue with the bytes of its frames, its room and its blocks.
use Rattle.std.specs.Prelude.{ℕ, Bool}
use Rattle.px_model.specs.Queue.{Queue}

pub record HeldQueue : Type 0 where
  pub queue : Queue
  -- the bytes of a frame
  pub frame : ℕ
  -- how many more writes it takes without memory
  pub room : ℕ
  -- how many blocks these may bring in all
  pub block_room : ℕ
  -- how many blocks it holds
  pub blocks : ℕ

-- whether it waits for prebuf frames
abbrev pub with_hold : Queue → Bool → Queue
with_hold q on = record q { hold = on }
