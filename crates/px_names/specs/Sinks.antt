-- The invariant of the names of a server's sinks.
use Rattle.std.specs.Prelude.{ℕ, ◌≤◌, List, length}

-- 1 to 16 sinks
pub record AreSinks (sinks : List (List ℕ)) : Type 0 where
  pub some : 1 ≤ length sinks
  pub few : length sinks ≤ 16
