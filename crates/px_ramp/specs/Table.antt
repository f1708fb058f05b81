-- The ramps of a sink's inputs in the code.
use Rattle.std.specs.Prelude.{◌≡◌, ℕ, List, length}
use Rattle.std.specs.List.{AllByRecursion}
use Rattle.px_sample.specs.declared.spec.Spec.{Spec}
use Rattle.px_ramp.specs.declared.ramps.InputRamps.{InputRamps}

-- the ramps, and how many more inputs the table can hold without taking memory
pub record RoomyRamps : Type 0 where
  pub ramps : List InputRamps
  pub room : ℕ

-- each input has a ramp for each of `channels` channels
abbrev pub AreWide : ℕ → List InputRamps → Type 0
AreWide channels ramps = AllByRecursion (λ x. length (InputRamps.ramps x) ≡ channels) ramps

-- the ramps of a sink with the bytes of its frames: its sample spec, how many frames a ramp takes, the depth, the ramps, how many more inputs have room
-- without memory, and the bytes from the first frame that isn't consumed on
pub record HeldFrames : Type 0 where
  pub spec : Spec
  pub ramp : ℕ
  pub depth : ℕ
  pub ramps : List InputRamps
  pub room : ℕ
  pub bytes : List ℕ
