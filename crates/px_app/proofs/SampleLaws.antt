-- A replay with a sample cache is a run of a world with a sample cache.
use Rattle.std.proofs.Common.{◌≡◌, ◌≢◌, inl, ℕ, List, [], ◌∷◌, ◌++◌, length, Option, None, Some, Err, refl, sym, ap, subst, ◌∙◌}
use Rattle.std.specs.List.{concat, flat_map}
use Rattle.px_ends.specs.Visible.{after_adding}
use Rattle.px_ends.specs.Whole.{AddsFront}
use Rattle.px_types.specs.declared.status.Status.{Status}
use Rattle.px_header.specs.declared.header.Header.{Header}
use Rattle.px_session.specs.declared.event.Event.{Event}
use Rattle.px_state.specs.declared.effect.Effect.{Effect}
use Rattle.px_world.specs.declared.fault.WorldFault.{WorldFault}
use Rattle.px_world.specs.declared.fault.WorldFault.TheVariants.{Live, NotLive, NoSink, Worn, TooMany, NoMemory}
use Rattle.px_world.specs.Event.{frames_played, stopped_by}
use Rattle.px_world.specs.Output.{effect_record}
use Rattle.px_cache_world.specs.Sampler.{Sampler, new_sampler, sampler_refusal, sampler_after, sampler_effects, StandsForSampler}
use Rattle.px_cache_world.specs.Run.{AreSampled}
use Rattle.px_cache_world.proofs.Keeping.{run-kept}
use Rattle.px_cache_world.proofs.Sieving.{all-admitted, all-world, run-shown}
use Rattle.px_app.specs.declared.sample_stage.Sampling.{Sampling}
use Rattle.px_app.specs.declared.view.Lens.TheVariants as lens
use Rattle.px_app.specs.Ends.{Ends, Log}
use Rattle.px_app.specs.Mode.{state_after, AreAdmitted}
use Rattle.px_app.specs.Samples.{sample_course, sample_part, sample_mode, IsSampled, IsKept, Samples}
use Rattle.px_app.specs.Played.{Played}
use Rattle.px_app.specs.Records.{turn_sink, shown_part}
use Rattle.px_app.specs.Stage.{EventDone, EventCut, EventPlayed}
use Rattle.px_app.proofs.ModeLaws.{state-push}
use Rattle.px_app.proofs.PlayedLaws.{plays}
use Rattle.px_app.proofs.RecordLaws.{turn_is}

-- ---- the parts of a record

-- the records of an event, from what it did
pub part_is : (s : Sampler) (e : Event) (effects : List Effect) (stopped : Option ℕ) (frames : ℕ) (played : List ℕ)
    → effects ≡ sampler_effects s e → stopped ≡ stopped_by s.world e → frames ≡ length (frames_played s.world e) → played ≡ concat (frames_played s.world e)
    → shown_part lens.Records (turn_sink e) effects stopped frames played ≡ sample_part s e
part_is s e effects stopped frames played same stop count bytes =
    ap (λ (es : List Effect). shown_part lens.Records (turn_sink e) es stopped frames played) same
    ∙ ap (λ (o : Option ℕ). shown_part lens.Records (turn_sink e) (sampler_effects s e) o frames played) stop
    ∙ ap (λ (n : ℕ). shown_part lens.Records (turn_sink e) (sampler_effects s e) (stopped_by s.world e) n played) count
    ∙ ap (λ (b : List ℕ). shown_part lens.Records (turn_sink e) (sampler_effects s e) (stopped_by s.world e) (length (frames_played s.world e)) b) bytes
    ∙ ap (λ (r : List ℕ). flat_map effect_record (sampler_effects s e) ++ r) (sym (turn_is s.world e))

-- ---- an event

-- what is shown of it was added
pub event_done : (look : Unit {0}) (s : Sampler) (e : Event) (bytes : List ℕ) (before now : Option (List ℕ)) → bytes ≡ sample_part s e → sampler_refusal s e ≡ None → now ≡ after_adding before bytes → EventDone sample_mode look s e before now
event_done look s e bytes before now same admitted gained = record { admitted = admitted; gained = gained ∙ ap (after_adding before) same }

-- or a front of it
pub event_cut : (look : Unit {0}) (s : Sampler) (e : Event) (bytes : List ℕ) (before now : Option (List ℕ)) → bytes ≡ sample_part s e → sampler_refusal s e ≡ None → AddsFront bytes before now → EventCut sample_mode look s e before now
event_cut look s e bytes before now same admitted cut = record { admitted = admitted; gained = subst (λ (b : List ℕ). AddsFront b before now) same cut }

-- a fault, unless it is want of memory, is why the event isn't admitted
pub event_refused : (fault : WorldFault) (look : Unit {0}) (s : Sampler) (e : Event) (held : Option (List ℕ)) → (fault ≢ NoMemory → sampler_refusal s e ≡ Some fault) → EventPlayed sample_mode {B = Option (List ℕ)} (Err fault) look s e held held
event_refused NoMemory look s e held refused = inl refl
event_refused Live look s e held refused = (refused (λ (f : Live ≡ NoMemory). cc), refl)
event_refused NotLive look s e held refused = (refused (λ (f : NotLive ≡ NoMemory). cc), refl)
event_refused NoSink look s e held refused = (refused (λ (f : NoSink ≡ NoMemory). cc), refl)
event_refused Worn look s e held refused = (refused (λ (f : Worn ≡ NoMemory). cc), refl)
event_refused (TooMany asked there) look s e held refused = (refused (λ (f : TooMany asked there ≡ NoMemory). cc), refl)

-- the stage after it
pub stands_on : (new : Sampling) (look : Unit {0}) (header : Header) (events : List Event) (e : Event)
    → StandsForSampler new.world (sampler_after (state_after sample_course header events) e) → IsSampled new look header (events ++ e ∷ [])
stands_on new look header events e stands = record {
  stands = subst (λ (s : Sampler). StandsForSampler new.world s) (sym (state-push sample_course (new_sampler header) events e)) stands;
}

-- ---- a whole session

admitted_run : (s : Sampler) (events : List Event) → AreAdmitted sample_course s events → AreSampled s events
admitted_run s [] a = tt
admitted_run s (e ∷ events) a = (a.0, admitted_run (sampler_after s e) events a.1)

some_no_none : {L : Type 0} (l : L) → Some l ≡ None → ⊥
some_no_none l e = cc

is_kept : (header : Header) (events : List Event) → AreSampled (new_sampler header) events → IsKept header events
is_kept header events all = record {
  admitted = all-admitted header events all;
  world = all-world header events;
  shown = run-shown (new_sampler header) events;
  kept = run-kept (new_sampler header) events;
}

pub samples : (answered : Status) (before after : Ends) (log_before log_after : Log) → Played sample_mode tt answered before after log_before log_after → Samples answered before after log_before log_after
samples answered before after log_before log_after x =
    let p = plays sample_mode tt answered before after log_before log_after x in
    record {
      plays = p;
      run = λ is. admitted_run (new_sampler (p.ok is).header) (p.ok is).events (p.ok is).played.admitted;
      kept = λ is. is_kept (p.ok is).header (p.ok is).events (admitted_run (new_sampler (p.ok is).header) (p.ok is).events (p.ok is).played.admitted);
      named = λ is. some_no_none tt (p.no_such_sink is).unnamed;
    }
