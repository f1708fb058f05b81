-- A sink, the inputs and the messages that wait for it stay in step.
use Rattle.std.proofs.Common.{◌≡◌, ℕ, ◌≤◌, List, [], ◌∷◌, ◌++◌, map, length, refl, ap, sym, subst, ◌∙◌, arith}
use Rattle.std.specs.Prelude.{filter, flat_map}
use Rattle.std.specs.Option.{option_to_list}
use Rattle.std.specs.FinMap as finite
use Rattle.std.proofs.lemmas.List.{map-append, append-nil}
use Rattle.std.proofs.lemmas.Grind.{flat_map-append}
use Rattle.px_types.specs.declared.ids.SinkId.{SinkId}
use Rattle.px_header.specs.declared.header.SinkSpec.{SinkSpec}
use Rattle.px_model.specs.Frame.{SampleSpec}
use Rattle.px_model.specs.Message.{Message}
use Rattle.px_model.specs.Orderly.{Inputs, IsOrderly, NamesInput, Fits, inputs_left, inputs_left_by}
use Rattle.px_model.proofs.Matching.{orderly_joins}
use Rattle.px_msg.specs.declared.message.Msg.{Msg}
use Rattle.px_msg.specs.View.{sample_spec, message_of}
use Rattle.px_outcome.specs.declared.input.Input.{Input}
use Rattle.px_state.specs.State.{settled_on, bound_for}
use Rattle.px_ctl_play.specs.Asked.{MOST_ON_SINK}
use Rattle.px_core.specs.Orderly.{entry_of, spec_in, specs_of, is_held_by}
use Rattle.px_core.specs.Consistency.{AreInStep, IsPosted, is_coming_to, brought_of}
use Rattle.px_core.proofs.ListLaws.{all_push}

-- a message, as the definitions of sinks have it
abbrev pub view : {P : Type 0} → Msg P → Message P
view m = message_of (λ p. p) m

-- ---- one message more

pub left_by_joined : {P : Type 0} (spec_of : P → SampleSpec) (inputs : Inputs) (earlier later : List (Message P)) → inputs_left_by spec_of inputs (earlier ++ later) ≡ inputs_left_by spec_of (inputs_left_by spec_of inputs earlier) later
left_by_joined spec_of inputs [] later = refl
left_by_joined spec_of inputs (m ∷ earlier) later = left_by_joined spec_of (inputs_left spec_of inputs m) earlier later

posted_orderly : {P : Type 0} (spec_of : P → SampleSpec) (s : SampleSpec) (there settled : Inputs) (waiting : List (Message P)) (m : Message P) → IsOrderly spec_of s there waiting → inputs_left_by spec_of there waiting ≡ settled → NamesInput settled m → Fits spec_of s settled m → IsOrderly spec_of s there (waiting ++ m ∷ [])
posted_orderly spec_of s there settled waiting m o e n f =
    orderly_joins spec_of s there waiting (m ∷ []) o
    (subst (λ inputs. NamesInput inputs m) (sym e) n, subst (λ inputs. Fits spec_of s inputs m) (sym e) f, tt)

module _ {P : Type 0} (spec_of : P → SampleSpec) (sink : SinkId) (s : SinkSpec) (inputs later : List Input) where
  abbrev there : List Input → Inputs
  there xs = specs_of (filter (is_held_by sink) xs)

  abbrev Held : Type 0
  Held = map entry_of (filter (is_held_by sink) later) ≡ map entry_of (filter (is_held_by sink) inputs)

  abbrev Settled : Type 0
  Settled = map entry_of (settled_on later sink) ≡ map entry_of (settled_on inputs sink)

  abbrev Coming : Type 0
  Coming = (i : ℕ) → spec_in (is_coming_to sink) i later ≡ spec_in (is_coming_to sink) i inputs

  abbrev Bound : Type 0
  Bound = length (bound_for later sink) ≤ length (bound_for inputs sink)

  -- nothing changes for this sink, but how many are bound for it
  pub still_few : (waiting : List (Msg P)) → Held → Settled → Coming → length (bound_for later sink) ≤ MOST_ON_SINK → AreInStep spec_of sink s inputs waiting → AreInStep spec_of sink s later waiting
  still_few waiting held settled coming few h = record {
    orderly = subst (λ es. IsOrderly spec_of (sample_spec s.spec) (finite.from_entries es) (map view waiting)) (sym held) h.orderly;
    leaves = subst (λ es. inputs_left_by spec_of (finite.from_entries es) (map view waiting) ≡ specs_of (settled_on later sink)) (sym held)
        (h.leaves ∙ ap finite.from_entries (sym settled));
    bring = λ i. h.bring i ∙ ap option_to_list (sym (coming i));
    each = h.each;
    few = few;
  }

  -- nor that, but that inputs may go that were
  pub unmoved : (waiting : List (Msg P)) → Held → Settled → Coming → Bound → AreInStep spec_of sink s inputs waiting → AreInStep spec_of sink s later waiting
  unmoved waiting held settled coming bound h = still_few waiting held settled coming (omega (arith, bound, h.few)) h

  -- a message is posted
  pub posted : (waiting : List (Msg P)) (m : Msg P) → Held
      → ((i : ℕ) → option_to_list (spec_in (is_coming_to sink) i later) ≡ option_to_list (spec_in (is_coming_to sink) i inputs) ++ brought_of spec_of i m)
      → NamesInput (specs_of (settled_on inputs sink)) (view m)
      → Fits spec_of (sample_spec s.spec) (specs_of (settled_on inputs sink)) (view m)
      → inputs_left spec_of (specs_of (settled_on inputs sink)) (view m) ≡ specs_of (settled_on later sink)
      → IsPosted m
      → length (bound_for later sink) ≤ MOST_ON_SINK
      → AreInStep spec_of sink s inputs waiting → AreInStep spec_of sink s later (waiting ++ m ∷ [])
  posted waiting m held coming names fits settled is_posted few h = record {
    orderly = subst (λ ms. IsOrderly spec_of (sample_spec s.spec) (there later) ms) (sym (map-append view waiting (m ∷ [])))
        (subst (λ es. IsOrderly spec_of (sample_spec s.spec) (finite.from_entries es) (map view waiting ++ view m ∷ [])) (sym held)
        (posted_orderly spec_of (sample_spec s.spec) (there inputs) (specs_of (settled_on inputs sink)) (map view waiting) (view m) h.orderly h.leaves names fits));
    leaves = ap (inputs_left_by spec_of (there later)) (map-append view waiting (m ∷ []))
        ∙ left_by_joined spec_of (there later) (map view waiting) (view m ∷ [])
        ∙ ap (λ es. inputs_left spec_of (inputs_left_by spec_of (finite.from_entries es) (map view waiting)) (view m)) held
        ∙ ap (λ left. inputs_left spec_of left (view m)) h.leaves
        ∙ settled;
    bring = λ i. flat_map-append (brought_of spec_of i) waiting (m ∷ [])
        ∙ (λ k. h.bring i k ++ append-nil (brought_of spec_of i m) k)
        ∙ sym (coming i);
    each = all_push IsPosted waiting m h.each is_posted;
    few = few;
  }

  -- the first message is handed out
  pub handed : (waiting : List (Msg P)) (m : Msg P)
      → inputs_left spec_of (there inputs) (view m) ≡ there later
      → Settled
      → ((i : ℕ) → flat_map (brought_of spec_of i) waiting ≡ option_to_list (spec_in (is_coming_to sink) i later))
      → Bound
      → AreInStep spec_of sink s inputs (m ∷ waiting) → AreInStep spec_of sink s later waiting
  handed waiting m left settled bring bound h = record {
    orderly = subst (λ inputs. IsOrderly spec_of (sample_spec s.spec) inputs (map view waiting)) left h.orderly.2;
    leaves = ap (λ left. inputs_left_by spec_of left (map view waiting)) (sym left) ∙ h.leaves ∙ ap finite.from_entries (sym settled);
    bring = bring;
    each = h.each.1;
    few = omega (arith, bound, h.few);
  }
