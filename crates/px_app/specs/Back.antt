-- What was made for a serving call is handed back to its host.
use Rattle.std.specs.Prelude.{◌≡◌, ℕ, List, [], ◌∷◌, Option, None, Some}
use Rattle.px_ends.specs.Device.{DeviceState}
use Rattle.px_ends.specs.Host.{HostState, TakesPart, TakesCore}
use Rattle.px_server.specs.declared.served.LanePart.{LanePart}

module _ {D R C : Type 0} where
  -- the host takes back what is left of each sink, in the sinks' order
  abbrev pub TakesParts : (D → DeviceState) → (R → ℕ) → (R → ℕ) → List (LanePart D R) → HostState D R C → HostState D R C → Type 0
  TakesParts now faults fulls [] before after = after ≡ before
  TakesParts now faults fulls (p ∷ parts) before after =
      (mid : HostState D R C) × TakesPart (now p.device).faults (faults p.recorder) (fulls p.recorder) (record { sink = p.sink; device = p.device; recorder = p.recorder }) before mid
      × TakesParts now faults fulls parts mid after

  -- and the core's recorder, where there is one
  abbrev pub TakesCores : (C → ℕ) → (C → ℕ) → Option C → HostState D R C → HostState D R C → Type 0
  TakesCores faults fulls None before after = after ≡ before
  TakesCores faults fulls (Some recorder) before after = TakesCore (faults recorder) (fulls recorder) recorder before after
