-- A core under its lock keeps its history.
use Rattle.std.proofs.Common.{true, ◌+◌, ◌≡◌, ℕ, ◌<◌, Bool, false, List, [], ◌∷◌, ◌++◌, length, Option, Some, None, Result, Ok, Err, refl, ap, sym, subst, ◌∙◌, arith, length-append, append_assoc}
use Rattle.std.proofs.lemmas.Bool.{true≢false}
use Rattle.std.specs.Prelude.{slice_get, get_or, IfSome}
use Rattle.std.specs.List.{AllByRecursion}
use Rattle.std.specs.Option.{is_some, option_to_list, option_map}
use Rattle.std.proofs.lemmas.List.{append-nil, length-map}
use Rattle.std.proofs.lemmas.List.Sums.{fold-append}
use Rattle.std.proofs.lemmas.Grind.{flat_map-append}
use Rattle.std.proofs.lemmas.Option.{slice_get_within, slice_get-get_or, slice_get-map, none-some, same_Some}
use Rattle.px_annals.specs.declared.entry.CoreEntry.{CoreEntry}
use Rattle.px_annals.specs.declared.stream.PlainStream.{PlainStream}
use Rattle.px_annals.specs.declared.step.PlainStep.{PlainStep}
use Rattle.px_header.specs.declared.header.SinkSpec.{SinkSpec}
use Rattle.px_msg.specs.declared.message.Msg.{Msg}
use Rattle.px_msg.specs.declared.notice.Notice.{Notice}
use Rattle.px_msg.specs.View.{sample_spec}
use Rattle.px_msg.specs.Letters.{AreLawful, inputs_after}
use Rattle.px_state.specs.declared.effect.Effect.{Effect}
use Rattle.px_state.specs.State.{State}
use Rattle.px_core.specs.Consistency.{IsConsistent, IsStep}
use Rattle.px_core.specs.Orderly.{inputs_there}
use Rattle.px_core.specs.Hearing.{posted_by_steps}
use Rattle.px_core.specs.Step.{Step, stepped, stepped_by}
use Rattle.px_core.proofs.HearingLaws.{steps_sinks, posted_joined}
use Rattle.px_core.proofs.StepLaws.{new_keeps_with, steps_keep}
use Rattle.px_core_cell.specs.declared.step.CoreStep.{CoreStep}
use Rattle.px_core_cell.specs.declared.step.CoreStep.TheVariants as asked
use Rattle.px_core_cell.specs.declared.step.StepFault.{StepFault}
use Rattle.px_core_cell.specs.declared.step.StepFault.TheVariants.{NoMemory, Worn, Recorder, Owed}
use Rattle.px_core_cell.specs.Cell.{Cell, SinkEnds}
use Rattle.px_core_cell.specs.History.{sink_at, steps_in, replayed, noticed_in, noticed_by, owes, owed_by, AreExact, IsHeard, IsSound, IsAgreed, IsReplay, IsCell, Begins, fresh_ends, first_cell}
use Rattle.px_core_cell.specs.Parcel.{spec_of}
use Rattle.px_core_cell.specs.Plain.{steps_of}
use Rattle.px_core_cell.specs.Step.{IsAsked, IsEntryFor, steps_done, noticed_done, entered, owed_after, IsExactDone, IsEndAfter, Does, StepGives}
use Rattle.px_core_cell.proofs.Handing.{heard_on, all_outs}
use Rattle.px_core_cell.proofs.Doing.{own_steps}

-- ---- the entries of a step

abbrev those : Option PlainStep → List CoreEntry
those None = []
those (Some d) = record { step = d } ∷ []

those_steps : (made : Option PlainStep) → steps_in (those made) ≡ steps_done made
those_steps None = refl
those_steps (Some d) = append-nil (steps_of d)

those_noticed : (index : ℕ) (made : Option PlainStep) → noticed_by index (those made) ≡ noticed_done index made
those_noticed index None = refl
those_noticed index (Some d) = append-nil (noticed_in index d)

those_count : (made : Option PlainStep) → length (those made) ≡ length (option_to_list made)
those_count None = refl
those_count (Some d) = refl

those_owed : (made : Option PlainStep) (entries : List CoreEntry) → owed_by (entries ++ those made) ≡ owed_after made (owed_by entries)
those_owed None entries = ap owed_by (append-nil entries)
those_owed (Some d) entries = fold-append (λ (owed : Bool) (e : CoreEntry). owes owed e.step) false entries (record { step = d } ∷ [])

those_exact : (state : State PlainStream) (made : Option PlainStep) → IsExactDone state made → AreExact state (those made)
those_exact state None h = tt
those_exact state (Some d) h = (h, tt)

-- exact entries, and after them others
exact_joined : (began : State PlainStream) (entries later : List CoreEntry) → AreExact began entries → AreExact (replayed began entries) later → AreExact began (entries ++ later)
exact_joined began [] later h more = more
exact_joined began (e ∷ entries) later h more = (
  h.0,
  exact_joined (stepped_by spec_of began (steps_of e.step)) entries later h.1
      (subst (λ (s : State PlainStream). AreExact s later) (fold-append (stepped spec_of) began (steps_of e.step) (steps_in entries)) more),
)

all_steps : (entries : List CoreEntry) (made : Option PlainStep) → steps_in (entries ++ those made) ≡ steps_in entries ++ steps_done made
all_steps entries made =
    flat_map-append (λ (e : CoreEntry). steps_of e.step) entries (those made) ∙ ap (λ (l : List (Step PlainStream)). steps_in entries ++ l) (those_steps made)

all_noticed : (index : ℕ) (entries : List CoreEntry) (made : Option PlainStep) → noticed_by index (entries ++ those made) ≡ noticed_by index entries ++ noticed_done index made
all_noticed index entries made =
    flat_map-append (λ (e : CoreEntry). noticed_in index e.step) entries (those made) ∙ ap (λ (l : List (Notice PlainStream)). noticed_by index entries ++ l) (those_noticed index made)

-- ---- the steps of an entry can be

pub steps_fine : (step : CoreStep) (d : PlainStep) → IsAsked step → IsEntryFor step d → AllByRecursion IsStep (steps_of d)
steps_fine (asked.Connect conn) d may is = subst (λ (l : List (Step PlainStream)). AllByRecursion IsStep l) (sym (own_steps (asked.Connect conn) d refl is)) (tt, tt)
steps_fine (asked.Frame conn f) d may is = subst (λ (l : List (Step PlainStream)). AllByRecursion IsStep l) (sym (own_steps (asked.Frame conn f) d refl is)) (may, tt)
steps_fine (asked.Broken conn fault at) d may is = subst (λ (l : List (Step PlainStream)). AllByRecursion IsStep l) (sym (own_steps (asked.Broken conn fault at) d refl is)) (tt, tt)
steps_fine (asked.Close conn) d may is = subst (λ (l : List (Step PlainStream)). AllByRecursion IsStep l) (sym (own_steps (asked.Close conn) d refl is)) (tt, tt)
steps_fine (asked.Cut conn) d may is = subst (λ (l : List (Step PlainStream)). AllByRecursion IsStep l) (sym (own_steps (asked.Cut conn) d refl is)) (tt, tt)
steps_fine asked.Sweep d may is = subst (λ (l : List (Step PlainStream)). AllByRecursion IsStep l) (sym (own_steps asked.Sweep d refl is)) (tt, tt)
steps_fine (asked.Notice sink) d may is = subst (λ (x : PlainStep). AllByRecursion IsStep (steps_of x)) (sym is.1) (tt, tt)
steps_fine (asked.Out sink) d may is = subst (λ (x : PlainStep). AllByRecursion IsStep (steps_of x)) (sym is.1) (all_outs sink is.0)

module _ {C : Type 0} (visible : C → Option (List CoreEntry)) (began : State PlainStream) where
  -- the ends that a sink had before
  ends_before : (made : Option PlainStep) (before after : Cell C) → Does visible made before after → (index : ℕ) (f : SinkEnds) → slice_get after.ends index ≡ Some f → slice_get before.ends index ≡ Some (get_or before.ends index f)
  ends_before made before after does index f is = slice_get-get_or before.ends index f (subst (λ (n : ℕ). index < n) does.count (slice_get_within after.ends index f is))

  end_after : (made : Option PlainStep) (before after : Cell C) → Does visible made before after → (index : ℕ) (f : SinkEnds) → slice_get after.ends index ≡ Some f → IsEndAfter made before.logged.state index (get_or before.ends index f) f
  end_after made before after does index f is = does.ends index (get_or before.ends index f) f (ends_before made before after does index f is) is

  sound_after : (made : Option PlainStep) (before after : Cell C) → AllByRecursion IsStep (steps_done made) → IsSound before → Does visible made before after → IsSound after
  sound_after made before after fine h does =
      let sinks : after.logged.state.sinks ≡ before.logged.state.sinks = ap (λ (s : State PlainStream). s.sinks) does.logged.state ∙ steps_sinks spec_of before.logged.state (steps_done made) in
      record {
        core = subst (λ (s : State PlainStream). IsConsistent spec_of s) (sym does.logged.state) (steps_keep spec_of before.logged.state (steps_done made) fine h.core);
        count = does.count ∙ h.count ∙ ap (λ (l : List SinkSpec). length l) (sym sinks);
        heard = λ index s f there is.
            let e : SinkEnds = get_or before.ends index f in
            let end = end_after made before after does index f is in
            let was : slice_get before.logged.state.sinks index ≡ Some s = ap (λ (l : List SinkSpec). slice_get l index) (sym sinks) ∙ there in
            let now = heard_on before.logged.state index s e (steps_done made) was fine h.core (h.heard index s e was (ends_before made before after does index f is)) in
            record {
              key = end.key ∙ now.key;
              lawful = subst (λ (l : List (Msg PlainStream)). AreLawful spec_of (sample_spec s.spec) l) (sym end.posted) now.lawful;
              inputs = ap (λ (x : State PlainStream). inputs_there x (sink_at index)) does.logged.state ∙ now.inputs ∙ ap (λ (l : List (Msg PlainStream)). inputs_after spec_of l) (sym end.posted);
            };
      }

  replay_after : (made : Option PlainStep) (before after : Cell C) (entries : List CoreEntry) → IsReplay began before entries → Does visible made before after → IsReplay began after (entries ++ those made)
  replay_after made before after entries h does = record {
    state = does.logged.state ∙ ap (λ (s : State PlainStream). stepped_by spec_of s (steps_done made)) h.state
        ∙ sym (fold-append (stepped spec_of) began (steps_in entries) (steps_done made)) ∙ ap (λ (l : List (Step PlainStream)). stepped_by spec_of began l) (sym (all_steps entries made));
    steps = omega (arith, does.logged.steps, h.steps, those_count made, length-append entries (those made));
    owed = does.logged.owed ∙ ap (λ (b : Bool). owed_after made b) h.owed ∙ sym (those_owed made entries);
    exact = exact_joined began entries (those made) h.exact (subst (λ (s : State PlainStream). AreExact s (those made)) h.state (those_exact before.logged.state made does.logged.exact));
    agreed = λ index f is.
        let e : SinkEnds = get_or before.ends index f in
        let end = end_after made before after does index f is in
        let was = h.agreed index e (ends_before made before after does index f is) in
        record {
          posted = end.posted ∙ ap (λ (l : List (Msg PlainStream)). l ++ posted_by_steps spec_of (sink_at index) before.logged.state (steps_done made)) was.posted
              ∙ ap (λ (s : State PlainStream). posted_by_steps spec_of (sink_at index) began (steps_in entries) ++ posted_by_steps spec_of (sink_at index) s (steps_done made)) h.state
              ∙ sym (posted_joined spec_of (sink_at index) (steps_in entries) (steps_done made) began)
              ∙ ap (λ (l : List (Step PlainStream)). posted_by_steps spec_of (sink_at index) began l) (sym (all_steps entries made));
          taken = end.taken ∙ ap (λ (l : List (Notice PlainStream)). l ++ end.took) was.taken
              ∙ append_assoc (noticed_by index entries) (option_to_list e.held) end.took
              ∙ ap (λ (l : List (Notice PlainStream)). noticed_by index entries ++ l) end.held
              ∙ sym (append_assoc (noticed_by index entries) (noticed_done index made) (option_to_list f.held))
              ∙ ap (λ (l : List (Notice PlainStream)). l ++ option_to_list f.held) (sym (all_noticed index entries made));
        };
  }

  replays : (made : Option PlainStep) (before after : Cell C) → Does visible made before after → (o : Option (List CoreEntry)) → visible before.logged.recorder ≡ o → IfSome o (IsReplay began before) → IfSome (entered made o) (IsReplay began after)
  replays None before after does None e h = tt
  replays None before after does (Some entries) e h = subst (λ (l : List CoreEntry). IsReplay began after l) (append-nil entries) (replay_after None before after entries h does)
  replays (Some d) before after does None e h = tt
  replays (Some d) before after does (Some entries) e h = replay_after (Some d) before after entries h does

  pub goes_on : (made : Option PlainStep) (before after : Cell C) → AllByRecursion IsStep (steps_done made) → IsCell visible began before → Does visible made before after → IsCell visible began after
  goes_on made before after fine h does = record {
    sound = sound_after made before after fine h.sound does;
    replay = subst (λ (o : Option (List CoreEntry)). IfSome o (IsReplay began after)) (sym does.logged.visible_new) (replays made before after does (visible before.logged.recorder) refl h.replay);
  }

  same : (before after : Cell C) → after ≡ before → IsCell visible began before → IsCell visible began after
  same before after e h = subst (λ (c : Cell C). IsCell visible began c) (sym e) h

  pub step_keeps : (step : CoreStep) (before after : Cell C) (result : Result (Option (List Effect)) StepFault) → IsAsked step → IsCell visible began before → StepGives visible step before after result → IsCell visible began after
  step_keeps step before after (Ok None) may h gives = same before after gives.1.1 h
  step_keeps step before after (Ok (Some effects)) may h gives = goes_on (Some gives.1.entry) before after (steps_fine step gives.1.entry may gives.1.entry_for) h gives.1.does
  step_keeps step before after (Err NoMemory) may h gives = goes_on None before after tt h gives.1.0
  step_keeps step before after (Err Worn) may h gives = same before after gives.2 h
  step_keeps step before after (Err (Recorder why)) may h gives = goes_on None before after tt h gives.1.0
  step_keeps step before after (Err (Owed back)) may h gives = same before after gives.2 h

  -- ---- and counts its steps

  abbrev pub counted : Result (Option (List Effect)) StepFault → ℕ
  counted (Ok None) = 0
  counted (Ok (Some effects)) = 1
  counted (Err fault) = 0

  pub steps_after : (step : CoreStep) (before after : Cell C) (result : Result (Option (List Effect)) StepFault) → StepGives visible step before after result → after.logged.steps ≡ before.logged.steps + counted result
  steps_after step before after (Ok None) gives = omega (arith, ap (λ (c : Cell C). c.logged.steps) gives.1.1)
  steps_after step before after (Ok (Some effects)) gives = gives.1.does.logged.steps
  steps_after step before after (Err NoMemory) gives = gives.1.0.logged.steps
  steps_after step before after (Err Worn) gives = omega (arith, ap (λ (c : Cell C). c.logged.steps) gives.2)
  steps_after step before after (Err (Recorder why)) gives = gives.1.0.logged.steps
  steps_after step before after (Err (Owed back)) gives = omega (arith, ap (λ (c : Cell C). c.logged.steps) gives.2)

  pub counted_one : (o : Option (List Effect)) → is_some o ≡ true → counted (Ok o) ≡ 1
  counted_one None h = absurd (true≢false (sym h))
  counted_one (Some effects) h = refl

  -- ---- how it begins

  none_visible : (o : Option (List CoreEntry)) → IfSome o (λ (entries : List CoreEntry). entries ≡ []) → (cell : Cell C) → IsReplay began cell [] → IfSome o (IsReplay began cell)
  none_visible None h cell r = tt
  none_visible (Some entries) h cell r = subst (λ (l : List CoreEntry). IsReplay began cell l) (sym h) r

  pub begins : (recorder : C) (ends : List SinkEnds) → Begins began ends → IfSome (visible recorder) (λ (entries : List CoreEntry). entries ≡ []) → IsCell visible began (first_cell began recorder ends)
  begins recorder ends h none =
      let sinks : began.sinks ≡ h.header.sinks = ap (λ (s : State PlainStream). s.sinks) h.state_is in
      record {
        sound = record {
          core = subst (λ (s : State PlainStream). IsConsistent spec_of s) (sym h.state_is) (new_keeps_with spec_of h.source h.header h.lawful);
          count = ap (λ (l : List SinkEnds). length l) h.ends_are ∙ length-map h.header.sinks fresh_ends ∙ ap (λ (l : List SinkSpec). length l) (sym sinks);
          heard = λ index s e there is.
              let fresh : fresh_ends s ≡ e = same_Some (fresh_ends s) e (ap (λ (o : Option SinkSpec). option_map fresh_ends o) (sym (ap (λ (l : List SinkSpec). slice_get l index) (sym sinks) ∙ there)) ∙ at_end index ∙ is) in
              subst (λ (x : SinkEnds). IsHeard began index s x) fresh (record {
                key = refl;
                lawful = tt;
                inputs = ap (λ (x : State PlainStream). inputs_there x (sink_at index)) h.state_is;
              });
        };
        replay = none_visible (visible recorder) none (first_cell began recorder ends) (record {
          state = refl;
          steps = refl;
          owed = refl;
          exact = tt;
          agreed = λ index e is. by index e (slice_get h.header.sinks index) (at_end index ∙ is);
        });
      }
    where
      at_end : (index : ℕ) → option_map fresh_ends (slice_get h.header.sinks index) ≡ slice_get ends index
      at_end index = sym (ap (λ (l : List SinkEnds). slice_get l index) h.ends_are ∙ slice_get-map fresh_ends h.header.sinks index)

      by : (index : ℕ) (e : SinkEnds) (o : Option SinkSpec) → option_map fresh_ends o ≡ Some e → IsAgreed began [] index e
      by index e None is = absurd (none-some e is)
      by index e (Some s) is = subst (λ (x : SinkEnds). IsAgreed began [] index x) (same_Some (fresh_ends s) e is) (record { posted = refl; taken = refl })
