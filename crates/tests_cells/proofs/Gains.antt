-- What the tests send is lawful.
use Rattle.std.proofs.Common.{◌≡◌, List, [], ◌∷◌, ◌++◌, length, map, sym, ◌∙◌, subst, Option, Some, None}
use Rattle.std.specs.List.{AllByRecursion}
use Rattle.px_sample.specs.declared.spec.Spec.{Spec}
use Rattle.px_model.specs.Frame.{SampleSpec}
use Rattle.px_model.specs.Message.{InputFactors as Gains}
use Rattle.px_model.specs.Orderly.{Inputs, AreFactors, IsOrderly}
use Rattle.px_msg.specs.declared.message.Msg.{Msg}
use Rattle.px_msg.specs.declared.message.Msg.TheVariants.{Factors}
use Rattle.px_msg.specs.declared.factors.InputFactors.{InputFactors}
use Rattle.px_msg.specs.Letters.{none_there}
use Rattle.px_msg.specs.View.{message_of, gains, sample_spec}
use Rattle.px_stream.specs.HeldStream.{HeldStream}
use Rattle.px_lane_cell.specs.Moved.{parcel_spec, AreTaken}
use Rattle.tests_cells.specs.Gains.{IsGain, Sends}

module _ (sink : SampleSpec) (mono : 1 ≡ sink.channels) where
  each_fits : (each : List InputFactors) → AllByRecursion (λ f. length (InputFactors.factors f) ≡ 1) each → AllByRecursion (λ f. AreFactors sink (Gains.factors f)) (map gains each)
  each_fits [] h = tt
  each_fits (f ∷ each) h = (h.0 ∙ mono, each_fits each h.1)

  goes_on : (inputs : Inputs) (m : Msg HeldStream) (ms : List (Msg HeldStream)) → IsGain m → IsOrderly parcel_spec sink inputs (map (message_of (λ p. p)) ms)
      → IsOrderly parcel_spec sink inputs (map (message_of (λ p. p)) (m ∷ ms))
  goes_on inputs m ms is h =
      subst (λ (x : Msg HeldStream). IsOrderly parcel_spec sink inputs (map (message_of (λ p. p)) (x ∷ ms))) (sym is.is) (tt, each_fits is.each is.one, h)

  all_orderly : (inputs : Inputs) (ms : List (Msg HeldStream)) → AllByRecursion IsGain ms → IsOrderly parcel_spec sink inputs (map (message_of (λ p. p)) ms)
  all_orderly inputs [] h = tt
  all_orderly inputs (m ∷ ms) h = goes_on inputs m ms h.0 (all_orderly inputs ms h.1)

all_next : (ms : List (Msg HeldStream)) (m : Msg HeldStream) → AllByRecursion IsGain ms → IsGain m → AllByRecursion IsGain (ms ++ m ∷ [])
all_next [] m h is = (is, tt)
all_next (x ∷ ms) m h is = (h.0, all_next ms m h.1 is)

pub sends_next : (key : Option Spec) (posted : List (Msg HeldStream)) (m : Msg HeldStream) → Sends key posted → IsGain m → Sends key (posted ++ m ∷ [])
sends_next key posted m h is = record { mono = h.mono; gains = all_next posted m h.gains is }

pub lawful_next : (key : Option Spec) (posted : List (Msg HeldStream)) (m : Msg HeldStream) → Sends key posted → IsGain m → AreTaken key (posted ++ m ∷ [])
lawful_next None posted m h is = absurd h.mono
lawful_next (Some k) posted m h is = all_orderly (sample_spec k) (sym h.mono) none_there (posted ++ m ∷ []) (all_next posted m h.gains is)
