-- What the tests post to a mono sink: factors for inputs that needn't exist.
use Rattle.std.specs.Prelude.{◌≡◌, [], List, length, Option, MatchOption}
use Rattle.std.specs.List.{AllByRecursion}
use Rattle.px_ends.specs.MemoryDevice.{MemoryDevice, state_of}
use Rattle.px_ends.specs.Visible.{WhereVisible}
use Rattle.px_sample.specs.declared.spec.Spec.{Spec}
use Rattle.px_msg.specs.declared.message.Msg.{Msg}
use Rattle.px_msg.specs.declared.message.Msg.TheVariants.{Factors}
use Rattle.px_msg.specs.declared.factors.InputFactors.{InputFactors}
use Rattle.px_stream.specs.HeldStream.{HeldStream}
use Rattle.px_lane.specs.Lane.{Mixer, IsAttached}
use Rattle.px_lane_cell.specs.History.{unturned}

-- the message has one factor for each of some inputs
pub record IsGain (m : Msg HeldStream) : Type 0 where
  pub each : List InputFactors
  pub is : m ≡ Factors each
  pub one : AllByRecursion (λ f. length (InputFactors.factors f) ≡ 1) each

-- a mono sink's inbox, where only such messages were posted
pub record Sends (key : Option Spec) (posted : List (Msg HeldStream)) : Type 0 where
  pub mono : MatchOption key ⊥ (λ k. k.channels ≡ 1)
  pub gains : AllByRecursion IsGain posted

-- a mixer of a mono sink of 16 bits that has made no turn
pub record IsNew (lane : Mixer MemoryDevice) : Type 0 where
  pub begins : lane.sink ≡ unturned lane.sink
  pub mono : lane.sink.spec ≡ record { format = 3; channels = 1; rate = 48000 }
  pub attached : IsAttached (state_of lane.device) lane.sink
  pub unplayed : WhereVisible (state_of lane.device).played (λ bytes. bytes ≡ [])
