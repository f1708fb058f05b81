-- Counts that never fall. One that reaches its last value, 2 ^ 64 - 1, stays there.
use Rattle.std.specs.Prelude.{ℕ, ◌+◌, ◌-◌, ◌^◌, ◌≤◌, min}

-- the count rose, or is at its last value
pub record Rose (before now : ℕ) : Type 0 where
  pub later : before ≤ now
  pub more : min (before + 1) (2 ^ 64 - 1) ≤ now

-- the count after one more call that counts
abbrev pub next_count : ℕ → ℕ
next_count n = min (n + 1) (2 ^ 64 - 1)
