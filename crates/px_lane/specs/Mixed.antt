-- The inputs of a sink with the kept sums of their mix.
use Rattle.std.specs.Prelude.{ℕ, ◌≤◌, List, [], ◌∷◌, length}
use Rattle.px_sample.specs.declared.spec.Spec.{Spec}
use Rattle.px_model.specs.Stream.{Stream}
use Rattle.px_model.specs.Message.{Message}
use Rattle.px_model.specs.Sink.{Input}
use Rattle.px_model.specs.Turn.{inputs_with}
use Rattle.px_lane.specs.Taking.{AreFed}

-- the inputs of a sink, for how many frames past its horizon sums are kept, and for how many there is room (depth); and how many more messages, with
-- how many blocks in all, the inputs take without memory
pub record SummedInputs : Type 0 where
  pub spec : Spec
  pub depth : ℕ
  pub frames : ℕ
  pub inputs : List Input
  pub room : ℕ
  pub block_room : ℕ

-- inputs that can be mixed: each feeds all `channels` channels, and there are at most 256
pub record CanMix (channels : ℕ) (inputs : List Input) : Type 0 where
  pub fed : AreFed channels inputs
  pub few : length inputs ≤ 256

-- they can be mixed before and after each message, with `mixed` frames mixed ahead
abbrev pub CanMixAll : ℕ → ℕ → List (Message Stream) → List Input → Type 0
CanMixAll channels mixed [] inputs = CanMix channels inputs
CanMixAll channels mixed (m ∷ messages) inputs = CanMix channels inputs × CanMixAll channels mixed messages (inputs_with mixed m inputs)
