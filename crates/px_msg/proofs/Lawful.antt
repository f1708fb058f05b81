-- Lists of messages to a sink, one after another.
use Rattle.std.proofs.Common.{◌≡◌, List, [], ◌∷◌, ◌++◌, map, refl, ap, sym, ◌∙◌, subst}
use Rattle.std.proofs.lemmas.List.{map-append}
use Rattle.px_model.specs.Frame.{SampleSpec}
use Rattle.px_model.specs.Message.{Message}
use Rattle.px_model.specs.Orderly.{Inputs, IsOrderly, inputs_left, inputs_left_by}
use Rattle.px_model.proofs.Matching.{orderly_begins, orderly_goes_on, orderly_joins}
use Rattle.px_msg.specs.declared.message.Msg.{Msg}
use Rattle.px_msg.specs.View.{message_of}
use Rattle.px_msg.specs.Letters.{none_there, AreLawful, inputs_after}

left_by : {P : Type 0} (spec_of : P → SampleSpec) (inputs : Inputs) (earlier later : List (Message P))
    → inputs_left_by spec_of inputs (earlier ++ later) ≡ inputs_left_by spec_of (inputs_left_by spec_of inputs earlier) later
left_by spec_of inputs [] later = refl
left_by spec_of inputs (m ∷ earlier) later = left_by spec_of (inputs_left spec_of inputs m) earlier later

abbrev seen : {P : Type 0} → List (Msg P) → List (Message P)
seen messages = map (message_of (λ p. p)) messages

joined : {P : Type 0} (earlier later : List (Msg P)) → seen (earlier ++ later) ≡ seen earlier ++ seen later
joined {P} earlier later = map-append (message_of {P = P} (λ p. p)) earlier later

module _ {P : Type 0} (spec_of : P → SampleSpec) where
  pub none : (sink : SampleSpec) → AreLawful {P = P} spec_of sink []
  none sink = tt

  pub front : (sink : SampleSpec) (earlier later : List (Msg P)) → AreLawful spec_of sink (earlier ++ later) → AreLawful spec_of sink earlier
  front sink earlier later h =
      orderly_begins spec_of sink none_there (seen earlier) (seen later) (subst (λ (ms : List (Message P)). IsOrderly spec_of sink none_there ms) (joined earlier later) h)

  pub goes_on : (sink : SampleSpec) (earlier later : List (Msg P)) → AreLawful spec_of sink (earlier ++ later)
      → IsOrderly spec_of sink (inputs_after spec_of earlier) (map (message_of (λ p. p)) later)
  goes_on sink earlier later h =
      orderly_goes_on spec_of sink none_there (seen earlier) (seen later) (subst (λ (ms : List (Message P)). IsOrderly spec_of sink none_there ms) (joined earlier later) h)

  pub joins : (sink : SampleSpec) (earlier later : List (Msg P)) → AreLawful spec_of sink earlier
      → IsOrderly spec_of sink (inputs_after spec_of earlier) (map (message_of (λ p. p)) later) → AreLawful spec_of sink (earlier ++ later)
  joins sink earlier later h k =
      subst (λ (ms : List (Message P)). IsOrderly spec_of sink none_there ms) (sym (joined earlier later))
      (orderly_joins spec_of sink none_there (seen earlier) (seen later) h k)

  pub inputs : (earlier later : List (Msg P))
      → inputs_after spec_of (earlier ++ later) ≡ inputs_left_by spec_of (inputs_after spec_of earlier) (map (message_of (λ p. p)) later)
  inputs earlier later =
      ap (λ (ms : List (Message P)). inputs_left_by spec_of none_there ms) (joined earlier later) ∙ left_by spec_of none_there (seen earlier) (seen later)
