-- A replay with ramps is a run of a world with ramps.
use Rattle.std.proofs.Common.{◌≡◌, ◌≢◌, inl, ℕ, List, [], ◌∷◌, ◌++◌, length, map, Option, None, Some, Err, refl, sym, ap, subst, ◌∙◌}
use Rattle.std.specs.Prelude.{option_map}
use Rattle.std.specs.List.{slice_get, concat}
use Rattle.std.proofs.lemmas.Option.{slice_get-map}
use Rattle.px_ends.specs.Visible.{after_adding}
use Rattle.px_ends.specs.Whole.{AddsFront}
use Rattle.px_types.specs.declared.status.Status.{Status}
use Rattle.px_header.specs.declared.header.Header.{Header}
use Rattle.px_session.specs.declared.event.Event.{Event}
use Rattle.px_session.specs.declared.event.Event.TheVariants.{Connect, Bytes, Close, Cut, Turn, Collect, Stop}
use Rattle.px_session.specs.Spelling.{end_byte}
use Rattle.px_state.specs.declared.effect.Effect.{Effect}
use Rattle.px_state.specs.Out.{waiting_for}
use Rattle.px_world.specs.declared.fault.WorldFault.{WorldFault}
use Rattle.px_world.specs.declared.fault.WorldFault.TheVariants.{Live, NotLive, NoSink, Worn, TooMany, NoMemory}
use Rattle.px_world.specs.World.{World, Mixer, new_world}
use Rattle.px_world.specs.Admission.{refusal_of, turn_refusal, collect_refusal, stop_refusal}
use Rattle.px_world.specs.Event.{world_after, effects_after, frames_played, stopped_by}
use Rattle.px_world.specs.Output.{world_by, records_of, AreAdmitted as IsRun}
use Rattle.px_ramp_world.specs.World.{RampWorld, new_ramp_world, plain_of}
use Rattle.px_ramp_world.specs.Event.{ramp_world_after}
use Rattle.px_ramp_world.specs.Output.{ramp_world_by, ramp_records_by, ramp_output_of, AreRampAdmitted}
use Rattle.px_ramp_world.specs.Plain.{without_buffer, without_frames}
use Rattle.px_ramp_world.specs.Running.{StandsFor}
use Rattle.px_ramp_world.proofs.Beside.{world-beside, effects-beside, admitted-beside}
use Rattle.px_ramp_world.proofs.Decided.{is-decided}
use Rattle.px_app.specs.declared.ramp_stage.Ramping.{Ramping}
use Rattle.px_app.specs.declared.view.Lens.TheVariants as lens
use Rattle.px_app.specs.Ends.{Ends, Log}
use Rattle.px_app.specs.Mode.{state_by, state_after, AreAdmitted, shown_by, output_by}
use Rattle.px_app.specs.Played.{PlayedWhole, Played}
use Rattle.px_app.specs.Ramp.{Ramped, new_ramped, ramped_after, ramp_course, ramp_part, ramp_mode, IsRamped, IsMadeByRamps, Ramps}
use Rattle.px_app.specs.Records.{turn_sink, shown_part}
use Rattle.px_app.specs.Stage.{EventDone, EventCut, EventPlayed}
use Rattle.px_app.proofs.ModeLaws.{state-push}
use Rattle.px_app.proofs.PlayedLaws.{plays}
use Rattle.px_app.proofs.RecordLaws.{outcome_is}

-- ---- the states

plain_is : (s : Ramped) (events : List Event) → (state_by ramp_course s events).plain ≡ world_by s.plain events
plain_is s [] = refl
plain_is s (e ∷ events) = plain_is (ramped_after s e) events

over_is : (n : ℕ) (s : Ramped) (events : List Event) → (state_by ramp_course s events).over n ≡ ramp_world_by (s.over n) events
over_is n s [] = refl
over_is n s (e ∷ events) = over_is n (ramped_after s e) events

-- ---- refusals don't see the frames

turn_blind : (frames n waiting : ℕ) (o : Option Mixer) → turn_refusal o frames n waiting ≡ turn_refusal (option_map without_buffer o) frames n waiting
turn_blind frames n waiting None = refl
turn_blind frames n waiting (Some m) = refl

collect_blind : (n : ℕ) (o : Option Mixer) → collect_refusal o n ≡ collect_refusal (option_map without_buffer o) n
collect_blind n None = refl
collect_blind n (Some m) = refl

stop_blind : (o : Option Mixer) → stop_refusal o ≡ stop_refusal (option_map without_buffer o)
stop_blind None = refl
stop_blind (Some m) = refl

module _ (w : World) where
  there : (k : ℕ) → option_map without_buffer (slice_get w.mixers k) ≡ slice_get (map without_buffer w.mixers) k
  there k = sym (slice_get-map without_buffer w.mixers k)

  refusal_blind : (e : Event) → refusal_of w e ≡ refusal_of (without_frames w) e
  refusal_blind (Connect conn) = refl
  refusal_blind (Bytes conn bytes) = refl
  refusal_blind (Close conn) = refl
  refusal_blind (Cut conn) = refl
  refusal_blind (Turn sink frames n) =
      turn_blind frames n (length (waiting_for w.core (record { 0 = sink }))) (slice_get w.mixers sink)
      ∙ ap (λ (o : Option Mixer). turn_refusal o frames n (length (waiting_for w.core (record { 0 = sink })))) (there sink)
  refusal_blind (Collect sink n) = collect_blind n (slice_get w.mixers sink) ∙ ap (λ (o : Option Mixer). collect_refusal o n) (there sink)
  refusal_blind (Stop sink) = stop_blind (slice_get w.mixers sink.0) ∙ ap stop_refusal (there sink.0)

-- the world with ramps refuses what the plain world does
same_refusal : (n : ℕ) (header : Header) (events : List Event) (e : Event)
    → refusal_of (plain_of ((state_after ramp_course header events).over n)) e ≡ refusal_of (state_after ramp_course header events).plain e
same_refusal n header events e =
    ap (λ (w : RampWorld). refusal_of (plain_of w) e) (over_is n (new_ramped header) events)
    ∙ refusal_blind (plain_of (ramp_world_by (new_ramp_world n header) events)) e
    ∙ ap (λ (w : World). refusal_of w e) (world-beside n header events)
    ∙ sym (refusal_blind (world_by (new_world header) events) e)
    ∙ ap (λ (w : World). refusal_of w e) (sym (plain_is (new_ramped header) events))

-- ---- an event

-- the records of an event, from what it did
pub part_is : (n : ℕ) (s : Ramped) (e : Event) (effects : List Effect) (stopped : Option ℕ) (frames : ℕ) (played : List ℕ)
    → effects ≡ effects_after (plain_of (s.over n)) e → stopped ≡ stopped_by (plain_of (s.over n)) e
    → frames ≡ length (frames_played (plain_of (s.over n)) e) → played ≡ concat (frames_played (plain_of (s.over n)) e)
    → shown_part lens.Records (turn_sink e) effects stopped frames played ≡ ramp_part n s e
part_is n s e effects stopped frames played same stop count bytes = outcome_is (plain_of (s.over n)) e effects stopped frames played same stop count bytes

-- what is shown of it was added
pub event_done : (n : ℕ) (header : Header) (events : List Event) (e : Event) (bytes : List ℕ) (before now : Option (List ℕ))
    → bytes ≡ ramp_part n (state_after ramp_course header events) e → refusal_of (plain_of ((state_after ramp_course header events).over n)) e ≡ None
    → now ≡ after_adding before bytes → EventDone ramp_mode n (state_after ramp_course header events) e before now
event_done n header events e bytes before now same admitted gained = record { admitted = sym (same_refusal n header events e) ∙ admitted; gained = gained ∙ ap (after_adding before) same }

-- or a front of it
pub event_cut : (n : ℕ) (header : Header) (events : List Event) (e : Event) (bytes : List ℕ) (before now : Option (List ℕ))
    → bytes ≡ ramp_part n (state_after ramp_course header events) e → refusal_of (plain_of ((state_after ramp_course header events).over n)) e ≡ None
    → AddsFront bytes before now → EventCut ramp_mode n (state_after ramp_course header events) e before now
event_cut n header events e bytes before now same admitted cut = record {
  admitted = sym (same_refusal n header events e) ∙ admitted;
  gained = subst (λ (b : List ℕ). AddsFront b before now) same cut;
}

-- a fault, unless it is want of memory, is why the event isn't admitted
refused_so : (fault : WorldFault) (n : ℕ) (s : Ramped) (e : Event) (held : Option (List ℕ)) → (fault ≢ NoMemory → refusal_of s.plain e ≡ Some fault) → EventPlayed ramp_mode {B = Option (List ℕ)} (Err fault) n s e held held
refused_so NoMemory n s e held refused = inl refl
refused_so Live n s e held refused = (refused (λ (f : Live ≡ NoMemory). cc), refl)
refused_so NotLive n s e held refused = (refused (λ (f : NotLive ≡ NoMemory). cc), refl)
refused_so NoSink n s e held refused = (refused (λ (f : NoSink ≡ NoMemory). cc), refl)
refused_so Worn n s e held refused = (refused (λ (f : Worn ≡ NoMemory). cc), refl)
refused_so (TooMany asked there) n s e held refused = (refused (λ (f : TooMany asked there ≡ NoMemory). cc), refl)

pub event_refused : (fault : WorldFault) (n : ℕ) (header : Header) (events : List Event) (e : Event) (held : Option (List ℕ))
    → (fault ≢ NoMemory → refusal_of (plain_of ((state_after ramp_course header events).over n)) e ≡ Some fault)
    → EventPlayed ramp_mode {B = Option (List ℕ)} (Err fault) n (state_after ramp_course header events) e held held
event_refused fault n header events e held refused =
    refused_so fault n (state_after ramp_course header events) e held (λ other. sym (same_refusal n header events e) ∙ refused other)

-- the stage after it
pub stands_on : (new : Ramping) (n : ℕ) (header : Header) (events : List Event) (e : Event)
    → StandsFor new.world (ramp_world_after ((state_after ramp_course header events).over n) e) → IsRamped new n header (events ++ e ∷ [])
stands_on new n header events e stands = record {
  stands = subst (λ (s : Ramped). StandsFor new.world (s.over n)) (sym (state-push ramp_course (new_ramped header) events e)) stands;
}

-- ---- a whole session

plain_run : (s : Ramped) (events : List Event) → AreAdmitted ramp_course s events → IsRun s.plain events
plain_run s [] a = tt
plain_run s (e ∷ events) a = (a.0, plain_run (ramped_after s e) events a.1)

shown_are : (n : ℕ) (s : Ramped) (events : List Event) → shown_by ramp_mode n s events ≡ ramp_records_by (s.over n) events
shown_are n s [] = refl
shown_are n s (e ∷ events) = ap (λ (b : List ℕ). records_of (plain_of (s.over n)) e ++ b) (shown_are n (ramped_after s e) events)

some_no_none : {L : Type 0} (l : L) → Some l ≡ None → ⊥
some_no_none l e = cc

made_by_ramps : (n : ℕ) (header : Header) (events : List Event) → AreAdmitted ramp_course (new_ramped header) events → IsMadeByRamps n header events
made_by_ramps n header events all =
    let plain = plain_run (new_ramped header) events all in
    let run = admitted-beside n header events plain in
    record {
      run = run;
      plain = plain;
      effects = effects-beside n header events;
      decided = λ k s is. is-decided n header events k s is run;
    }

outputs_are : (n : ℕ) (header : Header) (events : List Event) → output_by ramp_mode n header events ≡ ramp_output_of n header events
outputs_are n header events = ap (λ (b : List ℕ). b ++ end_byte ∷ []) (shown_are n (new_ramped header) events)

gained_by : (n : ℕ) (before after : Ends) (w : PlayedWhole ramp_mode n before after) → after.held ≡ after_adding before.held (ramp_output_of n w.header w.events)
gained_by n before after w = w.gained ∙ ap (λ (l : ℕ). after_adding before.held (output_by ramp_mode l w.header w.events)) (by_some w.looks) ∙ ap (after_adding before.held) (outputs_are n w.header w.events)
  where
    by_some : {m k : ℕ} → Some m ≡ Some k → k ≡ m
    by_some e = cc

pub ramps : (n : ℕ) (answered : Status) (before after : Ends) (log_before log_after : Log) → Played ramp_mode n answered before after log_before log_after → Ramps n answered before after log_before log_after
ramps n answered before after log_before log_after x =
    let p = plays ramp_mode n answered before after log_before log_after x in
    record {
      plays = p;
      made = λ is. made_by_ramps n (p.ok is).header (p.ok is).events (p.ok is).played.admitted;
      gained = λ is. gained_by n before after (p.ok is);
      named = λ is. some_no_none n (p.no_such_sink is).unnamed;
    }
