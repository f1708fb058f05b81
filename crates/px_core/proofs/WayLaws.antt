-- The way of an input that is settled: no message to detach its stream was handed to its sink.
use Rattle.std.proofs.Common.{◌≡◌, ℕ, List, [], ◌∷◌, ◌++◌, map, Some, None, Bool, true, false, refl, ap, sym, ◌∙◌, cond}
use Rattle.std.specs.Prelude.{filter, flat_map, nat_eq, get_or, Contains}
use Rattle.std.specs.Option.{option_to_list}
use Rattle.std.specs.Ordering.{nat_cmp, eq_by_cmp}
use Rattle.std.specs.FinMap as finite
use Rattle.std.specs.Cmp.{nat_cmp_total}
use Rattle.std.proofs.lemmas.Bool.{and_right}
use Rattle.std.proofs.lemmas.Option.{none-some}
use Rattle.px_model.specs.Frame.{SampleSpec}
use Rattle.px_model.specs.Orderly.{Inputs, inputs_left, inputs_left_by}
use Rattle.px_msg.specs.declared.message.Msg.{Msg}
use Rattle.px_msg.specs.declared.message.Msg.TheVariants.{New, Attach, Detach, Write, Cork, Flush, Trigger, Prebuf, Drain, Attr, Factors, Query}
use Rattle.px_msg.specs.View.{sample_spec}
use Rattle.px_outcome.specs.declared.input.Input.{Input}
use Rattle.px_outcome.specs.declared.input.Standing.TheVariants.{Settled}
use Rattle.px_outcome.specs.declared.input.Way.TheVariants.{Left}
use Rattle.px_state.specs.State.{State, has_index, input_of}
use Rattle.px_core.specs.Orderly.{spec_in, specs_of, is_held_by, is_there}
use Rattle.px_core.specs.Consistency.{IsInput, IsConsistent, AreInStep, brought_of, is_coming_to, is_coming}
use Rattle.px_core.proofs.ListLaws.{found_all, no_cons}
use Rattle.px_core.proofs.EntryLaws.{same_key, get_in, here_in}
use Rattle.px_core.proofs.InStepLaws.{view}
use Rattle.px_core.proofs.HandingLaws.{sink_there}
use Rattle.px_core.proofs.ChangeLaws.{sink_at, settled_spec, on_own}
use Rattle.px_core.proofs.MisfitLaws.{here_by_index}

-- ---- a sink that doesn't have an input, and isn't brought it, doesn't have it later

put_in : (inputs : Inputs) (j i : ℕ) (s : SampleSpec) → finite.get inputs i ≡ None → cond (nat_eq j i) (s ∷ []) [] ≡ [] → finite.get (finite.insert inputs j s) i ≡ None
put_in inputs j i s absent none = finite.get-insert nat_cmp_total inputs j s i ∙ (λ k. cond (same_key i j k) (Some s) (absent k)) ∙ by (nat_eq j i) none
  where
    by : (b : Bool) → cond b (s ∷ []) [] ≡ [] → cond b (Some s) None ≡ None
    by true e = absurd (no_cons s [] e)
    by false e = refl

taken_out : (inputs : Inputs) (j i : ℕ) → finite.get inputs i ≡ None → finite.get (finite.remove inputs j) i ≡ None
taken_out inputs j i absent = finite.get-remove nat_cmp_total inputs j i ∙ by (eq_by_cmp nat_cmp i j)
  where
    by : (b : Bool) → cond b None (finite.get inputs i) ≡ None
    by true = refl
    by false = absent

none_of_both : {A : Type 0} (xs ys : List A) → xs ++ ys ≡ [] → (xs ≡ []) × (ys ≡ [])
none_of_both [] ys e = (refl, e)
none_of_both (x ∷ xs) ys e = absurd (no_cons x (xs ++ ys) e)

module _ {P : Type 0} (spec_of : P → SampleSpec) (i : ℕ) where
  one_later : (inputs : Inputs) (m : Msg P) → finite.get inputs i ≡ None → brought_of spec_of i m ≡ [] → finite.get (inputs_left spec_of inputs (view m)) i ≡ None
  one_later inputs (New n) absent none = put_in inputs n.input.0 i (sample_spec n.spec) absent none
  one_later inputs (Attach input parcel feed factors) absent none = put_in inputs input.0 i (spec_of parcel) absent none
  one_later inputs (Detach input) absent none = taken_out inputs input.0 i absent
  one_later inputs (Write input seek offset frames bytes) absent none = absent
  one_later inputs (Cork input on) absent none = absent
  one_later inputs (Flush input) absent none = absent
  one_later inputs (Trigger input) absent none = absent
  one_later inputs (Prebuf input) absent none = absent
  one_later inputs (Drain input tag) absent none = absent
  one_later inputs (Attr input attr) absent none = absent
  one_later inputs (Factors each) absent none = absent
  one_later inputs (Query input tag) absent none = absent

  all_later : (inputs : Inputs) (ms : List (Msg P)) → finite.get inputs i ≡ None → flat_map (brought_of spec_of i) ms ≡ [] → finite.get (inputs_left_by spec_of inputs (map view ms)) i ≡ None
  all_later inputs [] absent none = absent
  all_later inputs (m ∷ ms) absent none =
      let parts = none_of_both (brought_of spec_of i m) (flat_map (brought_of spec_of i) ms) none in
      all_later (inputs_left spec_of inputs (view m)) ms (one_later inputs m absent parts.0) parts.1

-- ---- so the stream of a settled input never left its sink

pub settled_stays : {P : Type 0} (spec_of : P → SampleSpec) (state : State P) → IsConsistent spec_of state → (x : Input) → Contains state.inputs x → x.standing ≡ Settled → x.way ≡ Left → ⊥
settled_stays {P} spec_of state h x held settled left =
    let is = found_all (IsInput state.sinks state.inputs_made) (has_index x.index) state.inputs x h.steady.inputs here in
    let own = sink_there state.sinks x.sink.0 is.sink_there in
    let it : AreInStep spec_of (sink_at x.sink.0) own.0 state.inputs (get_or state.posted x.sink.0 []) = h.steady.in_step x.sink.0 own.0 own.1 in
    none-some (sample_spec x.spec) (
    sym (ap (λ (m : Inputs). finite.get m x.index.0) (sym it.leaves) ∙ all_later spec_of x.index.0 (specs_of (filter (is_held_by (sink_at x.sink.0)) state.inputs)) (get_or state.posted x.sink.0 []) absent (it.bring x.index.0 ∙ ap option_to_list none_comes))
    ∙ settled_spec state.inputs h.steady.rising x.sink.0 x here (on_own x settled)
    )
  where
    here : input_of state.inputs x.index ≡ Some x
    here = here_by_index state.inputs h.steady.rising x held

    absent : finite.get (specs_of (filter (is_held_by (sink_at x.sink.0)) state.inputs)) x.index.0 ≡ None
    absent =
        get_in (is_held_by (sink_at x.sink.0)) state.inputs h.steady.rising x.index.0
        ∙ here_in (is_held_by (sink_at x.sink.0)) x.index state.inputs x here
        ∙ ap (λ b. cond b (Some (sample_spec x.spec)) None) (and_right (nat_eq x.sink.0 x.sink.0) (is_there x.way) (ap is_there left))

    none_comes : spec_in (is_coming_to (sink_at x.sink.0)) x.index.0 state.inputs ≡ None
    none_comes =
        here_in (is_coming_to (sink_at x.sink.0)) x.index state.inputs x here
        ∙ ap (λ b. cond b (Some (sample_spec x.spec)) None) (and_right (nat_eq x.sink.0 x.sink.0) (is_coming x.way) (ap is_coming left))
