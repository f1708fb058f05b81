-- What is outside a run of the program.
use Rattle.std.specs.Prelude.{◌≡◌, ℕ, List, Option}
use Rattle.px_ends.specs.Host.{HostState, DialState}
use Rattle.px_ctl.specs.Control.{Sides}
use Rattle.px_app.specs.Ends.{Ends, Log, ends_of, log_end}

-- the input, the output, the log, the host and the links that it dialled
pub record Outside (D R C L : Type 0) : Type 0 where
  pub ends : Ends
  pub log : Log
  pub host : HostState D R C
  pub dialled : DialState L

module _ {D R C L : Type 0} where
  abbrev pub outside_of : Option (List ℕ) → ℕ → Option (List ℕ) → ℕ → Option (List ℕ) → ℕ → HostState D R C → DialState L → Outside D R C L
  outside_of left read_faults held write_faults log_held log_faults host dialled =
      record { ends = ends_of left read_faults held write_faults; log = log_end log_held log_faults; host = host; dialled = dialled }

  -- what a control client has of it
  abbrev pub sides_of : Outside D R C L → Sides D R C L
  sides_of o = record { held = o.ends.held; faults = o.ends.write_faults; host = o.host; dialled = o.dialled }

  -- the host was left alone
  abbrev pub HostStays : Outside D R C L → Outside D R C L → Type 0
  HostStays before after = (after.host ≡ before.host) × (after.dialled ≡ before.dialled)
