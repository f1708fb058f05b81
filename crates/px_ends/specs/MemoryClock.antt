-- A clock in memory: it answers the moments of its list one after the other, and then the last one again.
use Rattle.std.specs.Prelude.{ℕ, max, List, slice_get}
use Rattle.std.specs.Option.{unwrap_or}
use Rattle.px_types.specs.Faults.{next_count}

pub record MemoryClock : Type 0 where
  pub moments : List ℕ
  -- how often it was read
  pub calls : ℕ
  -- the last moment that it answered
  pub latest : ℕ

-- its next answer: the next moment of the list, the last one again after the end of the list, and never one before the last
abbrev pub moment_in : MemoryClock → ℕ
moment_in c = max c.latest (unwrap_or (slice_get c.moments c.calls) c.latest)

abbrev pub clock_after : MemoryClock → MemoryClock
clock_after c = record c { calls = next_count c.calls; latest = moment_in c }
