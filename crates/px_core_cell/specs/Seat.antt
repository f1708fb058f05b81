-- A seat at a core.
use Rattle.std.specs.Prelude.{◌≡◌, ℕ, ◌+◌, Option, None, Some, Result, Ok, Err}

-- its parts, of all that there are, and the number of steps done through it
pub record Seat : Type 0 where
  pub parts : ℕ
  pub steps : ℕ

-- a seat counts one more exactly where a step was done
abbrev pub Counts : {E F : Type 0} → Result (Option E) F → Seat → Seat → Type 0
Counts (Ok (Some effects)) before after = after ≡ record before { steps = before.steps + 1 }
Counts (Ok None) before after = after ≡ before
Counts (Err fault) before after = after ≡ before
