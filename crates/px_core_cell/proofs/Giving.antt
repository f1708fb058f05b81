-- What the steps of one sink answer, as steps of the whole.
use Rattle.std.proofs.Common.{◌≡◌, ℕ, ◌<◌, ◌≤◌, List, map, length, set, Option, Some, None, Result, Ok, Err, refl, ap, sym, subst, ◌∙◌, arith}
use Rattle.std.specs.Prelude.{slice_get, slice_index_or, MatchResult}
use Rattle.std.proofs.lemmas.List.{length-map, map-set}
use Rattle.std.proofs.lemmas.Option.{same_Some, none-some, slice_get-map, slice_get_past, slice_get_read}
use Rattle.px_types.specs.declared.ids.SinkId.{SinkId}
use Rattle.px_annals.specs.declared.entry.CoreEntry.{CoreEntry}
use Rattle.px_annals.specs.declared.recorder.Recorder.{Ghosts}
use Rattle.px_annals.specs.declared.stream.PlainStream.{PlainStream}
use Rattle.px_annals.specs.declared.step.PlainStep.TheVariants as plain
use Rattle.px_state.specs.declared.effect.Effect.{Effect}
use Rattle.px_state.specs.State.{State}
use Rattle.px_core.proofs.HandingLaws.{sink_there}
use Rattle.px_core_cell.specs.declared.ends.CoreEnd.{CoreEnd}
use Rattle.px_core_cell.specs.declared.log.StepLog.{StepLog}
use Rattle.px_core_cell.specs.declared.step.CoreStep.TheVariants as asked
use Rattle.px_core_cell.specs.declared.step.StepFault.{StepFault}
use Rattle.px_core_cell.specs.declared.step.StepFault.TheVariants.{NoMemory, Worn, Recorder, Owed}
use Rattle.px_core_cell.specs.Boxes.{Boxes, boxes_of}
use Rattle.px_core_cell.specs.Cell.{Logged, Cell, SinkEnds, logged_of}
use Rattle.px_core_cell.specs.History.{IsSound}
use Rattle.px_core_cell.specs.Plain.{plain_notice}
use Rattle.px_core_cell.specs.Step.{HandsAll, Finishes, NoticeGives, OutGives, NowhereGives, FreeGives}
use Rattle.px_core_cell.proofs.Doing.{apart, at, nothing_spared, notice_spared, out_spared, out_effects}
use Rattle.px_core_cell.proofs.Handing.{IsThere}
use Rattle.px_core_cell.proofs.Places.{there, rests}

-- ---- the ends of one sink

pub placed_at : {B : Type 0} (seen : CoreEnd → B) (ends : List CoreEnd) (place n : ℕ) (e : CoreEnd) → n ≡ length ends → place < n → e ≡ slice_index_or ends place e → slice_get (map seen ends) place ≡ Some (seen e)
placed_at seen ends place n e count inside is = slice_get-map seen ends place ∙ ap (λ (o : Option CoreEnd). Rattle.std.specs.Option.option_map seen o) (slice_get_read ends n place e count inside is)

-- their mailboxes stay the same where one of them was used
pub boxes_stay : (ends : List CoreEnd) (place n : ℕ) (e f : CoreEnd) → n ≡ length ends → place < n → e ≡ slice_index_or ends place e → boxes_of f ≡ boxes_of e
    → map boxes_of (set ends place f) ≡ map boxes_of ends
boxes_stay ends place n e f count inside is same =
    map-set boxes_of ends place f
    ∙ ap (λ (b : Boxes). set (map boxes_of ends) place b) same
    ∙ rests (map boxes_of ends) place (boxes_of e)
    (slice_get-map boxes_of ends place ∙ ap (λ (o : Option CoreEnd). Rattle.std.specs.Option.option_map boxes_of o) (slice_get_read ends n place e count inside is))

pub none_at : {B : Type 0} (seen : CoreEnd → B) (ends : List CoreEnd) (place n : ℕ) → n ≡ length ends → n ≤ place → (e : B) → slice_get (map seen ends) place ≡ Some e → ⊥
none_at seen ends place n count past e is =
    none-some e (sym (slice_get_past (map seen ends) place (omega (arith, count, past, length-map ends seen))) ∙ is)

-- the index of a sink's ends is that of a sink
pub is_sink : {C : Type 0} (cell : Cell C) (sink : SinkId) → IsSound cell → sink.0 < length cell.ends → sink.0 < length cell.logged.state.sinks
is_sink cell sink h inside = subst (λ (n : ℕ). sink.0 < n) h.count inside

-- a sink whose ends are there is there itself
pub is_there : {C : Type 0} (cell : Cell C) (sink : SinkId) (e : SinkEnds) → IsSound cell → sink.0 < length cell.ends → slice_get cell.ends sink.0 ≡ Some e → IsThere sink cell.logged.state e
is_there cell sink e h inside is =
    let s = sink_there cell.logged.state.sinks sink.0 (is_sink cell sink h inside) in
    (s.0, s.1, h.heard sink.0 s.0 e s.1 is)

module _ {C : Type 0} (visible : C → Option (List CoreEntry)) where
  abbrev cell : Logged C → List SinkEnds → Cell C
  cell logged ends = record { logged = logged; ends = ends }

  -- ---- its notice

  pub notice_gives : (sink : SinkId) (before after : Logged C) (ends : List SinkEnds) (e f : SinkEnds) (result : Result (Option (List Effect)) StepFault) → slice_get ends sink.0 ≡ Some e → NoticeGives visible sink.0 before after e f result
      → FreeGives visible (asked.Notice sink) (cell before ends) (cell after (set ends sink.0 f)) result
  notice_gives sink before after ends e f (Ok (Some effects)) here gives = record {
    entry = plain.Notice sink.0 (plain_notice gives.0);
    entry_for = (gives.0, refl);
    does = at visible (Some (plain.Notice sink.0 (plain_notice gives.0))) sink.0 before after ends e f here gives.1 (λ index other. notice_spared before.state index sink.0 gives.0 other);
    effects_are = gives.2;
    finishes = tt;
    fault = gives.3;
  }
  notice_gives sink before after ends e f (Ok None) here gives = (
    (λ x is. ap SinkEnds.held (same_Some x e (sym is ∙ here)) ∙ gives.0),
    (λ i. cell (gives.2 i) ((ap (λ (y : SinkEnds). set ends sink.0 y) gives.1 ∙ rests ends sink.0 e here) i)),
  )
  notice_gives sink before after ends e f (Err NoMemory) here gives = (at visible None sink.0 before after ends e f here gives.0 (λ index other. nothing_spared before.state index), gives.1)
  notice_gives sink before after ends e f (Err Worn) here gives = gives
  notice_gives sink before after ends e f (Err (Recorder why)) here gives = (at visible None sink.0 before after ends e f here gives.0 (λ index other. nothing_spared before.state index), gives.1)
  notice_gives sink before after ends e f (Err (Owed back)) here gives = gives

  -- ---- the messages that wait for it

  abbrev pub EffectsGive : SinkId → Cell C → Cell C → Result (List Effect) StepFault → Type 0
  EffectsGive sink before after result = MatchResult result (λ effects. FreeGives visible (asked.Out sink) before after (Ok (Some effects))) (λ e. FreeGives visible (asked.Out sink) before after (Err e))

  handed_all : (sink : SinkId) (after : Logged C) (ends : List SinkEnds) (f : SinkEnds) → HandsAll sink after.state f → Finishes (asked.Out sink) (cell after (set ends sink.0 f))
  handed_all sink after ends f all x is = subst (λ (y : SinkEnds). HandsAll sink after.state y) (there ends sink.0 f x is) all

  pub out_gives : (sink : SinkId) (before after : Logged C) (ends : List SinkEnds) (e f : SinkEnds) (result : Result (List Effect) StepFault) → slice_get ends sink.0 ≡ Some e → OutGives visible sink before after e f result
      → EffectsGive sink (cell before ends) (cell after (set ends sink.0 f)) result
  out_gives sink before after ends e f (Ok effects) here gives = record {
    entry = plain.Out sink.0 gives.0;
    entry_for = (gives.0, refl);
    does = at visible (Some (plain.Out sink.0 gives.0)) sink.0 before after ends e f here gives.1 (λ index other. out_spared before.state index sink.0 gives.0 other);
    effects_are = gives.3 ∙ sym (out_effects before.state sink gives.0);
    finishes = handed_all sink after ends f gives.2;
    fault = gives.4;
  }
  out_gives sink before after ends e f (Err NoMemory) here gives = absurd gives
  out_gives sink before after ends e f (Err Worn) here gives = gives
  out_gives sink before after ends e f (Err (Recorder why)) here gives = (at visible None sink.0 before after ends e f here gives.0 (λ index other. nothing_spared before.state index), gives.1)
  out_gives sink before after ends e f (Err (Owed back)) here gives = gives

  -- ---- none, to a sink that isn't there

  pub nowhere_gives : {R : Ghosts C CoreEntry} (sink : SinkId) (state : State PlainStream) (before after : StepLog C R) (ends : List SinkEnds) (result : Result (List Effect) StepFault)
      → ((e : SinkEnds) → slice_get ends sink.0 ≡ Some e → ⊥) → NowhereGives visible sink.0 before after result → EffectsGive sink (cell (logged_of state before) ends) (cell (logged_of state after) ends) result
  nowhere_gives sink state before after ends (Ok effects) none gives = record {
    entry = plain.Out sink.0 0;
    entry_for = (0, refl);
    does = apart visible (Some (plain.Out sink.0 0)) (logged_of state before) (logged_of state after) ends (gives.0 state) (λ index. record { none_posted = refl; noticed = refl });
    effects_are = gives.1;
    finishes = λ e is. absurd (none e is);
    fault = gives.2;
  }
  nowhere_gives sink state before after ends (Err NoMemory) none gives = absurd gives
  nowhere_gives sink state before after ends (Err Worn) none gives = gives
  nowhere_gives sink state before after ends (Err (Recorder why)) none gives = (apart visible None (logged_of state before) (logged_of state after) ends (gives.0 state) (λ index. nothing_spared state index), gives.1)
  nowhere_gives sink state before after ends (Err (Owed back)) none gives = gives
