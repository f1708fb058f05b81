-- Inputs that can be mixed, whatever orderly messages come.
use Rattle.std.proofs.Common.{ℕ, ◌≤◌, List, [], ◌∷◌, map, sym, subst, arith}
use Rattle.std.specs.List.{AllByRecursion}
use Rattle.std.specs.FinMap as finite
use Rattle.px_model.specs.Frame.{SampleSpec}
use Rattle.px_model.specs.Stream.{Stream, IsStream}
use Rattle.px_model.specs.Going.{after}
use Rattle.px_model.specs.Message.{Message}
use Rattle.px_model.specs.Orderly.{Inputs, IsOrderly}
use Rattle.px_model.specs.Sink.{Input as Stands, IsRising, IsStreamOf, specs_of, with_stream}
use Rattle.px_model.specs.Turn.{inputs_with}
use Rattle.px_model.proofs.Inputs.{AreInputs, each_keeps}
use Rattle.px_lane.specs.Mixed.{CanMix, CanMixAll}
use Rattle.px_lane.proofs.Feeds.{IsFed, after_fed, message_fed, fed_of}
use Rattle.px_lane.proofs.Orders.{leaves, forward_specs}
use Rattle.px_lane.proofs.Turning.{length_specs, message_few}

-- the first of them
pub mixes_now : (channels mixed : ℕ) (ms : List (Message Stream)) (xs : List Stands) → CanMixAll channels mixed ms xs → CanMix channels xs
mixes_now channels mixed [] xs h = h
mixes_now channels mixed (m ∷ ms) xs h = h.0

can_mix : (channels : ℕ) (xs : List Stands) → AreInputs (IsFed channels) xs → finite.len (specs_of xs) ≤ 256 → CanMix channels xs
can_mix channels xs h few = record { fed = h.streams; few = omega (arith, few, length_specs xs h.rising) }

mixes : (sink : SampleSpec) (mixed : ℕ) (ms : List (Message Stream)) (xs : List Stands) → IsOrderly Stream.spec sink (specs_of xs) ms → AreInputs (IsFed sink.channels) xs → finite.len (specs_of xs) ≤ 256
    → CanMixAll sink.channels mixed ms xs
mixes sink mixed [] xs h fed few = can_mix sink.channels xs fed few
mixes sink mixed (m ∷ ms) xs h fed few = (
  can_mix sink.channels xs fed few,
  mixes sink mixed ms (inputs_with mixed m xs) (subst (λ (there : Inputs). IsOrderly Stream.spec sink there ms) (leaves sink mixed m xs) h.2) (message_fed sink (specs_of xs) mixed m xs h.1 fed)
      (subst (λ (there : Inputs). finite.len there ≤ 256) (leaves sink mixed m xs) (message_few (specs_of xs) m h.0 few)),
)

pub orderly_mixes : (sink : SampleSpec) (k mixed : ℕ) (ms : List (Message Stream)) (xs : List Stands) → IsRising xs → AllByRecursion (λ x. IsStreamOf sink (Stands.stream x)) xs
    → finite.len (specs_of xs) ≤ 256 → IsOrderly Stream.spec sink (specs_of xs) ms → CanMixAll sink.channels mixed ms (map (with_stream (λ s. after s k)) xs)
orderly_mixes sink k mixed ms xs rising streams few h =
    mixes sink mixed ms (map (with_stream (λ s. after s k)) xs) (subst (λ (there : Inputs). IsOrderly Stream.spec sink there ms) (sym (forward_specs k xs)) h)
    (each_keeps (IsFed sink.channels) (λ s. after s k) (after_fed sink.channels k) xs (record { rising = rising; streams = fed_of sink xs streams }))
    (subst (λ (there : Inputs). finite.len there ≤ 256) (sym (forward_specs k xs)) few)

pub streams_are : (sink : SampleSpec) (xs : List Stands) → AllByRecursion (λ x. IsStreamOf sink (Stands.stream x)) xs → AllByRecursion (λ x. IsStream (Stands.stream x)) xs
streams_are sink [] h = tt
streams_are sink (x ∷ xs) h = (h.0.holds, streams_are sink xs h.1)
