-- What the parts of a step under the lock do, put together.
use Rattle.std.proofs.Common.{◌≡◌, ℕ, zero, suc, ◌+◌, ◌<◌, Bool, true, false, List, [], ◌∷◌, ◌++◌, set, replicate, length, Option, Some, None, Ok, refl, ap, sym, subst, ◌∙◌, arith}
use Rattle.std.specs.Prelude.{nat_eq, slice_get, IfSome}
use Rattle.std.specs.List.{AllByRecursion}
use Rattle.std.specs.Option.{option_to_list}
use Rattle.std.proofs.lemmas.Bool.{cond-true, cond-false, eq-eqb, ne_eqb, eqb-true, eqb-false, true≢false}
use Rattle.std.proofs.lemmas.List.{append-nil, length-set}
use Rattle.std.proofs.lemmas.Option.{same_Some}
use Rattle.px_types.specs.declared.ids.SinkId.{SinkId}
use Rattle.px_annals.specs.declared.entry.CoreEntry.{CoreEntry}
use Rattle.px_annals.specs.declared.stream.PlainStream.{PlainStream}
use Rattle.px_annals.specs.declared.step.PlainStep.{PlainStep}
use Rattle.px_annals.specs.declared.step.PlainStep.TheVariants as plain
use Rattle.px_annals.specs.History.{noted}
use Rattle.px_model.specs.declared.data.Run.{Run}
use Rattle.px_model.specs.declared.data.Run.TheVariants.{Quiet, Playing}
use Rattle.px_frame.specs.declared.frame.Body.{Body}
use Rattle.px_frame.specs.declared.frame.Body.TheVariants.{Control, Write}
use Rattle.px_frame.specs.declared.fault.FrameFault.{FrameFault}
use Rattle.px_frame.specs.declared.fault.FrameFault.TheVariants.{ZeroLength, TooLong, PacketFlags, SharedMemory, SeekMode}
use Rattle.px_frame.specs.Fault.{code_of}
use Rattle.px_msg.specs.declared.message.Msg.{Msg}
use Rattle.px_msg.specs.declared.notice.Notice.{Notice}
use Rattle.px_msg.specs.declared.notice.Notice.TheVariants.{Request, Overflow, Underflow, Started, Drained, Detached, Latency}
use Rattle.px_state.specs.declared.effect.Effect.{Effect}
use Rattle.px_state.specs.State.{State}
use Rattle.px_core.specs.Consistency.{Spares}
use Rattle.px_core.specs.Hearing.{posted_by_steps}
use Rattle.px_core.specs.Step.{Step, out, stepped, effects_of, stepped_by, effects_by}
use Rattle.px_core.proofs.HearingLaws.{nothing_posted}
use Rattle.px_core_cell.specs.declared.step.CoreStep.{CoreStep}
use Rattle.px_core_cell.specs.declared.step.CoreStep.TheVariants as asked
use Rattle.px_core_cell.specs.Cell.{Logged, SinkEnds}
use Rattle.px_core_cell.specs.History.{sink_at, noticed_in, owes, IsExact}
use Rattle.px_core_cell.specs.Parcel.{spec_of}
use Rattle.px_core_cell.specs.Plain.{plain_run, plain_notice, plain_body, run_for, notice_for, body_for, fault_for, steps_of}
use Rattle.px_core_cell.proofs.Places.{elsewhere, there}
use Rattle.px_core_cell.specs.Step.{is_own, waits, step_for, IsEntryFor, steps_done, noticed_done, IsEndAfter, LoggedDoes, Does, DoesAt, Fetches, PostsMany, NoticeGives, OwnGives}

-- ---- plain forms mean what they were made of

run_back : (r : Run) → run_for (plain_run r) ≡ r
run_back (Quiet frames) = refl
run_back (Playing frames) = refl

pub notice_back : (n : Notice PlainStream) → notice_for (plain_notice n) ≡ n
notice_back (Request input frames) = refl
notice_back (Overflow input) = refl
notice_back (Underflow input) = refl
notice_back (Started input) = refl
notice_back (Drained input tag) = refl
notice_back (Detached input parcel) = refl
notice_back (Latency input tag write read buffered playing run) = ap (λ r. Latency input tag write read buffered playing r) (run_back run)

pub body_back : (b : Body) → body_for (plain_body b) ≡ b
body_back (Control bytes) = refl
body_back (Write stream offset seek bytes) = refl

pub fault_back : (f : FrameFault) → fault_for (code_of f) ≡ f
fault_back ZeroLength = refl
fault_back TooLong = refl
fault_back PacketFlags = refl
fault_back SharedMemory = refl
fault_back SeekMode = refl

-- the steps of an entry that no sink has a part in
pub own_steps : (step : CoreStep) (d : PlainStep) → is_own step ≡ true → IsEntryFor step d → steps_of d ≡ step_for step ∷ []
own_steps (asked.Connect conn) d own is = ap steps_of is
own_steps (asked.Frame conn f) d own is = ap steps_of is ∙ ap (λ (b : Body). Step.frame conn (record { at = f.at; body = b }) ∷ []) (body_back f.body)
own_steps (asked.Broken conn fault at) d own is = ap steps_of is ∙ ap (λ (g : FrameFault). Step.broken conn g at ∷ []) (fault_back fault)
own_steps (asked.Close conn) d own is = ap steps_of is
own_steps (asked.Cut conn) d own is = ap steps_of is
own_steps asked.Sweep d own is = ap steps_of is
own_steps (asked.Notice sink) d own is = absurd (true≢false (sym own))
own_steps (asked.Out sink) d own is = absurd (true≢false (sym own))

pub one_effects : (state : State PlainStream) (s : Step PlainStream) → effects_by spec_of state (s ∷ []) ≡ effects_of spec_of state s
one_effects state s = append-nil (effects_of spec_of state s)

pub out_effects : (state : State PlainStream) (sink : SinkId) (n : ℕ) → effects_by spec_of state (replicate n (out sink)) ≡ []
out_effects state sink zero = refl
out_effects state sink (suc n) = out_effects (stepped spec_of state (out sink)) sink n

-- ---- the ends that a step has no part in

pub record Spared (state : State PlainStream) (index : ℕ) (made : Option PlainStep) : Type 0 where
  pub none_posted : posted_by_steps spec_of (sink_at index) state (steps_done made) ≡ []
  pub noticed : noticed_done index made ≡ []

pub stays : (state : State PlainStream) (index : ℕ) (made : Option PlainStep) → Spared state index made → (e : SinkEnds) → IsEndAfter made state index e e
stays state index made spared e = record {
  key = refl;
  posted = sym (ap (λ (l : List (Msg PlainStream)). e.posted ++ l) spared.none_posted ∙ append-nil e.posted);
  took = [];
  taken = sym (append-nil e.taken);
  held = append-nil (option_to_list e.held) ∙ ap (λ (l : List (Notice PlainStream)). l ++ option_to_list e.held) (sym spared.noticed);
}

pub nothing_spared : (state : State PlainStream) (index : ℕ) → Spared state index None
nothing_spared state index = record { none_posted = refl; noticed = refl }

own_as : (state : State PlainStream) (index : ℕ) (step : CoreStep) → is_own step ≡ true → posted_by_steps spec_of (sink_at index) state (step_for step ∷ []) ≡ []
own_as state index (asked.Connect conn) own = refl
own_as state index (asked.Frame conn f) own = refl
own_as state index (asked.Broken conn fault at) own = refl
own_as state index (asked.Close conn) own = refl
own_as state index (asked.Cut conn) own = refl
own_as state index asked.Sweep own = refl
own_as state index (asked.Notice sink) own = absurd (true≢false (sym own))
own_as state index (asked.Out sink) own = absurd (true≢false (sym own))

-- after such a step a sweep is owed, but after a sweep
pub own_owes : (owed : Bool) (step : CoreStep) (d : PlainStep) → is_own step ≡ true → IsEntryFor step d → owes owed d ≡ waits step
own_owes owed (asked.Connect conn) d own is = ap (owes owed) is
own_owes owed (asked.Frame conn f) d own is = ap (owes owed) is
own_owes owed (asked.Broken conn fault at) d own is = ap (owes owed) is
own_owes owed (asked.Close conn) d own is = ap (owes owed) is
own_owes owed (asked.Cut conn) d own is = ap (owes owed) is
own_owes owed asked.Sweep d own is = ap (owes owed) is
own_owes owed (asked.Notice sink) d own is = absurd (true≢false (sym own))
own_owes owed (asked.Out sink) d own is = absurd (true≢false (sym own))

-- and its entry is exact in any state
own_exact : (state : State PlainStream) (step : CoreStep) (d : PlainStep) → is_own step ≡ true → IsEntryFor step d → IsExact state d
own_exact state (asked.Connect conn) d own is = subst (λ (x : PlainStep). IsExact state x) (sym is) tt
own_exact state (asked.Frame conn f) d own is = subst (λ (x : PlainStep). IsExact state x) (sym is) tt
own_exact state (asked.Broken conn fault at) d own is = subst (λ (x : PlainStep). IsExact state x) (sym is) tt
own_exact state (asked.Close conn) d own is = subst (λ (x : PlainStep). IsExact state x) (sym is) tt
own_exact state (asked.Cut conn) d own is = subst (λ (x : PlainStep). IsExact state x) (sym is) tt
own_exact state asked.Sweep d own is = subst (λ (x : PlainStep). IsExact state x) (sym is) tt
own_exact state (asked.Notice sink) d own is = absurd (true≢false (sym own))
own_exact state (asked.Out sink) d own is = absurd (true≢false (sym own))

own_unnoticed : (index : ℕ) (step : CoreStep) (d : PlainStep) → is_own step ≡ true → IsEntryFor step d → noticed_in index d ≡ []
own_unnoticed index (asked.Connect conn) d own is = ap (noticed_in index) is
own_unnoticed index (asked.Frame conn f) d own is = ap (noticed_in index) is
own_unnoticed index (asked.Broken conn fault at) d own is = ap (noticed_in index) is
own_unnoticed index (asked.Close conn) d own is = ap (noticed_in index) is
own_unnoticed index (asked.Cut conn) d own is = ap (noticed_in index) is
own_unnoticed index asked.Sweep d own is = ap (noticed_in index) is
own_unnoticed index (asked.Notice sink) d own is = absurd (true≢false (sym own))
own_unnoticed index (asked.Out sink) d own is = absurd (true≢false (sym own))

pub own_spared : (state : State PlainStream) (index : ℕ) (step : CoreStep) (d : PlainStep) → is_own step ≡ true → IsEntryFor step d → Spared state index (Some d)
own_spared state index step d own is = record {
  none_posted = ap (λ (l : List (Step PlainStream)). posted_by_steps spec_of (sink_at index) state l) (own_steps step d own is) ∙ own_as state index step own;
  noticed = own_unnoticed index step d own is;
}

pub notice_spared : (state : State PlainStream) (index place : ℕ) (n : Notice PlainStream) → (place ≡ index → ⊥) → Spared state index (Some (plain.Notice place (plain_notice n)))
notice_spared state index place n apart = record { none_posted = refl; noticed = cond-false (nat_eq place index) (notice_for (plain_notice n) ∷ []) [] (ne_eqb place index apart) }

all_spare : (place index n : ℕ) → (place ≡ index → ⊥) → AllByRecursion (Spares {P = PlainStream} (sink_at index)) (replicate n (out (sink_at place)))
all_spare place index zero apart = tt
all_spare place index (suc n) apart = (apart, all_spare place index n apart)

pub out_spared : (state : State PlainStream) (index place n : ℕ) → (place ≡ index → ⊥) → Spared state index (Some (plain.Out place n))
out_spared state index place n apart = record { none_posted = nothing_posted spec_of (sink_at index) (replicate n (out (sink_at place))) state (all_spare place index n apart); noticed = refl }

-- ---- the ends that it has a part in

pub fetched : (state : State PlainStream) (index : ℕ) (e f : SinkEnds) → Fetches e f → IsEndAfter None state index e f
fetched state index e f h = record { key = h.key; posted = h.posted ∙ sym (append-nil e.posted); took = h.took; taken = h.taken; held = h.held }

pub collected : (state : State PlainStream) (index : ℕ) (e g f : SinkEnds) (n : Notice PlainStream) → Fetches e g → g.held ≡ Some n → f ≡ record g { held = None } → IsEndAfter (Some (plain.Notice index (plain_notice n))) state index e f
collected state index e g f n h has is = record {
  key = ap SinkEnds.key is ∙ h.key;
  posted = ap SinkEnds.posted is ∙ h.posted ∙ sym (append-nil e.posted);
  took = h.took;
  taken = ap SinkEnds.taken is ∙ h.taken;
  held = h.held ∙ ap (λ (o : Option (Notice PlainStream)). option_to_list o) has ∙ ap (λ (m : Notice PlainStream). m ∷ []) (sym (notice_back n))
      ∙ sym (cond-true (nat_eq index index) (notice_for (plain_notice n) ∷ []) [] (eq-eqb index index refl))
      ∙ sym (append-nil (noticed_in index (plain.Notice index (plain_notice n))))
      ∙ ap (λ (o : Option (Notice PlainStream)). noticed_in index (plain.Notice index (plain_notice n)) ++ option_to_list o) (sym (ap SinkEnds.held is));
}

pub handed : (sink : SinkId) (n : ℕ) (before after : State PlainStream) (e f : SinkEnds) → PostsMany sink n before after e f → IsEndAfter (Some (plain.Out sink.0 n)) before sink.0 e f
handed sink n before after e f h = record {
  key = ap SinkEnds.key h.ends;
  posted = ap SinkEnds.posted h.ends;
  took = [];
  taken = ap SinkEnds.taken h.ends ∙ sym (append-nil e.taken);
  held = append-nil (option_to_list e.held) ∙ ap (λ (o : Option (Notice PlainStream)). option_to_list o) (sym (ap SinkEnds.held h.ends));
}

-- ---- all of it

module _ {C : Type 0} (visible : C → Option (List CoreEntry)) where
  pub logged_rests : (before after : Logged C) → after.state ≡ before.state → visible after.recorder ≡ visible before.recorder → after.steps ≡ before.steps → after.owed ≡ before.owed → LoggedDoes visible None before after
  logged_rests before after state same steps owed = record { state = state; visible_new = same; steps = omega (arith, steps); owed = owed; exact = tt }

  pub logged_moves : (d : PlainStep) (before after : Logged C) → after.state ≡ stepped_by spec_of before.state (steps_of d) → visible after.recorder ≡ noted (record { step = d }) (visible before.recorder) → after.steps ≡ before.steps + 1 → after.owed ≡ owes before.owed d → IsExact before.state d
      → LoggedDoes visible (Some d) before after
  logged_moves d before after state is steps owed exact = record { state = state; visible_new = is; steps = steps; owed = owed; exact = exact }

  -- no sink has a part in it
  pub apart : (made : Option PlainStep) (before after : Logged C) (ends : List SinkEnds) → LoggedDoes visible made before after → ((index : ℕ) → Spared before.state index made) → Does visible made (record { logged = before; ends = ends }) (record { logged = after; ends = ends })
  apart made before after ends logged spared = record {
    logged = logged;
    count = refl;
    ends = λ index e f was is. subst (λ x. IsEndAfter made before.state index e x) (same_Some e f (sym was ∙ is)) (stays before.state index made (spared index) e);
  }

  -- one has
  pub at : (made : Option PlainStep) (place : ℕ) (before after : Logged C) (ends : List SinkEnds) (e f : SinkEnds) → slice_get ends place ≡ Some e → DoesAt visible made place before after e f → ((index : ℕ) → (place ≡ index → ⊥) → Spared before.state index made)
      → Does visible made (record { logged = before; ends = ends }) (record { logged = after; ends = set ends place f })
  at made place before after ends e f here does spared = record {
    logged = does.logged;
    count = length-set ends place f;
    ends = λ index x y was is. by index x y was is (nat_eq place index) refl;
  }
    where
      by : (index : ℕ) (x y : SinkEnds) → slice_get ends index ≡ Some x → slice_get (set ends place f) index ≡ Some y → (b : Bool) → nat_eq place index ≡ b → IsEndAfter made before.state index x y
      by index x y was is true e0 =
          let same : place ≡ index = eqb-true place index e0 in
          subst (λ (k : ℕ). slice_get ends k ≡ Some x → slice_get (set ends place f) k ≡ Some y → IsEndAfter made before.state k x y) same
          (λ w i. subst (λ (p : SinkEnds × SinkEnds). IsEndAfter made before.state place p.0 p.1) (λ j. (same_Some e x (sym here ∙ w) j, there ends place f y i j)) does.end) was is
      by index x y was is false e0 =
          let other : place ≡ index → ⊥ = eqb-false place index e0 in
          subst (λ (z : SinkEnds). IsEndAfter made before.state index x z) (same_Some x y (sym was ∙ sym (elsewhere ends place index f other) ∙ is)) (stays before.state index made (spared index other) x)

  -- a notice that is kept is collected
  abbrev pub Collects : ℕ → Option (Notice PlainStream) → State PlainStream → State PlainStream → List Effect → Type 0
  Collects index held before after effects =
      IfSome held (λ n. (after ≡ stepped spec_of before (Step.notice (sink_at index) n)) × (effects ≡ effects_of spec_of before (Step.notice (sink_at index) n)))

  -- one that was fetched and collected, of a sink that exists
  pub notice_done : (index : ℕ) (before after : Logged C) (e k f : SinkEnds) (n : Notice PlainStream) (effects : List Effect) → index < length before.state.sinks → Fetches e k → k.held ≡ Some n → f ≡ record k { held = None }
      → Collects index k.held before.state after.state effects → visible after.recorder ≡ noted (record { step = plain.Notice index (plain_notice n) }) (visible before.recorder) → after.steps ≡ before.steps + 1 → after.owed ≡ true
      → after.fault ≡ before.fault → NoticeGives visible index before after e f (Ok (Some effects))
  notice_done index before after e k f n effects exists fetch has is collects same steps owed fault =
      let did = subst (λ (o : Option (Notice PlainStream)). Collects index o before.state after.state effects) has collects in
      let back : Step.notice (sink_at index) n ≡ Step.notice (sink_at index) (notice_for (plain_notice n)) = ap (λ (m : Notice PlainStream). Step.notice (sink_at index) m) (sym (notice_back n)) in (
        n,
        record {
          logged = logged_moves (plain.Notice index (plain_notice n)) before after (did.0 ∙ ap (λ (s : Step PlainStream). stepped spec_of before.state s) back) same steps owed exists;
          end = collected before.state index e k f n fetch has is;
        },
        did.1 ∙ ap (λ (s : Step PlainStream). effects_of spec_of before.state s) back ∙ sym (one_effects before.state (Step.notice (sink_at index) (notice_for (plain_notice n)))),
        fault,
      )

  -- a step that no sink has a part in
  pub own_done : (step : CoreStep) (d : PlainStep) (before after : Logged C) (effects : List Effect) → is_own step ≡ true → IsEntryFor step d → after.state ≡ stepped spec_of before.state (step_for step)
      → visible after.recorder ≡ noted (record { step = d }) (visible before.recorder) → after.steps ≡ before.steps + 1 → after.owed ≡ owes before.owed d → effects ≡ effects_of spec_of before.state (step_for step) → after.fault ≡ before.fault
      → OwnGives visible step before after (Ok effects)
  own_done step d before after effects own is state same steps owed are fault = (
    d,
    is,
    logged_moves d before after (state ∙ ap (λ (l : List (Step PlainStream)). stepped_by spec_of before.state l) (sym (own_steps step d own is))) same steps owed (own_exact before.state step d own is),
    are ∙ sym (one_effects before.state (step_for step)) ∙ ap (λ (l : List (Step PlainStream)). effects_by spec_of before.state l) (sym (own_steps step d own is)),
    fault,
  )
