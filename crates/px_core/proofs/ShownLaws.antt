-- The infos of all inputs can be made, in a state and after each step: no input has more than 32 channels.
use Rattle.std.proofs.Common.{◌≡◌, ◌⊎◌, inl, inr, true, cond, List, Option, Some, subst, sym, ap, ◌∙◌}
use Rattle.std.proofs.lemmas.Bool.{cond-true}
use Rattle.px_types.specs.declared.ids.SinkId.{SinkId}
use Rattle.px_model.specs.Frame.{SampleSpec}
use Rattle.px_outcome.specs.declared.input.Input.{Input}
use Rattle.px_outcome.specs.declared.input.Standing.TheVariants.{Settled, Moving, Leaving}
use Rattle.px_flat.specs.FlatVolume.{FlatGroup}
use Rattle.px_ctl_play.specs.Arrival.{hands_over}
use Rattle.px_ctl_play.specs.Notified.{left}
use Rattle.px_subscribe.specs.Moments.{AreShown}
use Rattle.px_state.specs.State.{State}
use Rattle.px_state.specs.Outcome.{CoreOutcome}
use Rattle.px_core.specs.Consistency.{IsConsistent, IsStep}
use Rattle.px_core.specs.Notice.{left_of, arrival_at, arrived_with, given_up_by, given_up}
use Rattle.px_core.specs.Step.{Step, stepped, answered}
use Rattle.px_core.proofs.StepLaws.{step_keeps}
use Rattle.px_core.proofs.StreamLaws.{each_few_channels}

module _ {P : Type 0} (spec_of : P → SampleSpec) (state : State P) where
  pub state_shown : IsConsistent spec_of state → AreShown state.inputs
  state_shown h = each_few_channels state.sinks state.inputs_made state.inputs h.steady.inputs

module _ {P : Type 0} (spec_of : P → SampleSpec) (state : State P) where
  pub step_shown : (s : Step P) → IsStep s → IsConsistent spec_of state → AreShown (State.inputs (stepped spec_of state s))
  step_shown s can h = state_shown spec_of (stepped spec_of state s) (step_keeps spec_of state s can h)

  -- ---- after a stream was given up, by the standing of its input

  abbrev pub ShownAfter : CoreOutcome P → Type 0
  ShownAfter outcome = AreShown (State.inputs (answered state outcome))

  module _ (sink : SinkId) (x : Input) (parcel : P) (after : ShownAfter (given_up spec_of state sink (Some x) parcel)) where
    pub staying_shown : (x.standing ≡ Settled) ⊎ (x.standing ≡ Leaving) → ShownAfter (left_of spec_of state sink (Some x) parcel)
    staying_shown (inl e) = subst ShownAfter (ap (given_up_by spec_of state sink x parcel) e) after
    staying_shown (inr e) = subst ShownAfter (ap (given_up_by spec_of state sink x parcel) e) after

    module _ (to : SinkId) (e : x.standing ≡ Moving to) where
      moving_is : given_up spec_of state sink (Some x) parcel
          ≡ cond (hands_over (spec_of parcel) x) (arrived_with x.index parcel (arrival_at state to x)) (left_of spec_of state sink (Some x) parcel)
      moving_is = ap (given_up_by spec_of state sink x parcel) e

      pub arrived_shown : hands_over (spec_of parcel) x ≡ true → ShownAfter (arrived_with x.index parcel (arrival_at state to x))
      arrived_shown hands =
          subst ShownAfter (moving_is ∙ cond-true (hands_over (spec_of parcel) x) (arrived_with x.index parcel (arrival_at state to x)) (left_of spec_of state sink (Some x) parcel) hands) after

  -- what an ended input leaves, by parts of the state under other names
  pub left_same : (x : Input) (group group' : Option FlatGroup) (spec spec' : SampleSpec) (inputs inputs' : List Input) → group ≡ group' → spec ≡ spec' → inputs ≡ inputs'
      → left {P = P} (Some x) group spec inputs ≡ left (Some x) group' spec' inputs'
  left_same x group group' spec spec' inputs inputs' p q r = λ i. left (Some x) (p i) (q i) (r i)

  -- an outcome under another name
  pub same_shown : (a b : CoreOutcome P) → a ≡ b → ShownAfter b → ShownAfter a
  same_shown a b e after = subst ShownAfter (sym e) after
