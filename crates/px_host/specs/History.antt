-- A history in memory, or none.
use Rattle.std.specs.Prelude.{ℕ, ◌≤◌, Bool, true, false, List, Option, None, Some, ⊤}
use Rattle.px_annals.specs.History.{Limit}
use Rattle.px_host.specs.declared.history.History.{History}
use Rattle.px_host.specs.declared.history.History.TheVariants.{InMemory, Discarded}

module _ {E : Type 0} where
  abbrev pub visible_in : History E → Option (List E)
  visible_in (InMemory recorder) = Some recorder.held
  visible_in Discarded = None

  abbrev pub limit_of : History E → Option Limit
  limit_of (InMemory recorder) = Some recorder.limit
  limit_of Discarded = None

  -- whether entries are stored
  abbrev pub keeps_in : History E → Bool
  keeps_in (InMemory recorder) = true
  keeps_in Discarded = false

  abbrev pub CanTake : History E → Type 0
  CanTake (InMemory recorder) = 1 ≤ recorder.room
  CanTake Discarded = ⊤

  abbrev pub fulls_of : History E → ℕ
  fulls_of (InMemory recorder) = recorder.fulls
  fulls_of Discarded = 0
