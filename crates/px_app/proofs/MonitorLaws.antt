-- A replay with monitors is a run of a world with monitors.
use Rattle.std.proofs.Common.{◌≡◌, ◌≢◌, inl, ℕ, List, [], ◌∷◌, ◌++◌, length, Option, None, Some, Err, refl, sym, ap, subst, ◌∙◌}
use Rattle.std.specs.List.{concat, flat_map}
use Rattle.px_ends.specs.Visible.{after_adding}
use Rattle.px_ends.specs.Whole.{AddsFront}
use Rattle.px_types.specs.declared.status.Status.{Status}
use Rattle.px_header.specs.declared.header.Header.{Header}
use Rattle.px_session.specs.declared.event.Event.{Event}
use Rattle.px_state.specs.declared.effect.Effect.{Effect}
use Rattle.px_world.specs.declared.fault.WorldFault.{WorldFault}
use Rattle.px_world.specs.declared.fault.WorldFault.TheVariants.{Live, NotLive, NoSink, Worn, TooMany, NoMemory}
use Rattle.px_world.specs.Event.{frames_played, stopped_by}
use Rattle.px_world.specs.Output.{effect_record}
use Rattle.px_monitor.specs.Monitor.{Monitor, new_monitor, monitor_refusal, monitor_after, monitor_effects, sent_after, StandsForMonitor}
use Rattle.px_monitor.specs.Run.{AreMonitored}
use Rattle.px_monitor.proofs.Payloads.{run-due}
use Rattle.px_monitor.proofs.Sieving.{run-admits, run-world, run-shown}
use Rattle.px_monitor.proofs.Sized.{all-sized}
use Rattle.px_app.specs.declared.monitor_stage.Monitoring.{Monitoring}
use Rattle.px_app.specs.Ends.{Ends, Log}
use Rattle.px_app.specs.Mode.{state_after, AreAdmitted}
use Rattle.px_app.specs.Monitor.{monitor_course, monitor_part, monitor_mode, IsMonitored, IsSieved, Monitors}
use Rattle.px_app.specs.Played.{Played}
use Rattle.px_app.specs.Records.{turn_sink, monitored_part}
use Rattle.px_app.specs.Stage.{EventDone, EventCut, EventPlayed}
use Rattle.px_app.proofs.ModeLaws.{state-push}
use Rattle.px_app.proofs.PlayedLaws.{plays}
use Rattle.px_app.proofs.RecordLaws.{turn_is}

-- ---- the parts of a record

-- the records of an event, from what it did
pub part_is : (m : Monitor) (e : Event) (effects : List Effect) (stopped : Option ℕ) (frames : ℕ) (played : List ℕ) (sent : List Effect)
    → effects ≡ monitor_effects m e → stopped ≡ stopped_by m.world e → frames ≡ length (frames_played m.world e) → played ≡ concat (frames_played m.world e) → sent ≡ sent_after m e
    → monitored_part (turn_sink e) effects stopped frames played sent ≡ monitor_part m e
part_is m e effects stopped frames played sent same stop count bytes frames_sent =
    ap (λ (es : List Effect). monitored_part (turn_sink e) es stopped frames played sent) same
    ∙ ap (λ (o : Option ℕ). monitored_part (turn_sink e) (monitor_effects m e) o frames played sent) stop
    ∙ ap (λ (n : ℕ). monitored_part (turn_sink e) (monitor_effects m e) (stopped_by m.world e) n played sent) count
    ∙ ap (λ (b : List ℕ). monitored_part (turn_sink e) (monitor_effects m e) (stopped_by m.world e) (length (frames_played m.world e)) b sent) bytes
    ∙ ap (λ (es : List Effect). monitored_part (turn_sink e) (monitor_effects m e) (stopped_by m.world e) (length (frames_played m.world e)) (concat (frames_played m.world e)) es) frames_sent
    ∙ ap (λ (r : List ℕ). flat_map effect_record (monitor_effects m e) ++ r ++ flat_map effect_record (sent_after m e)) (sym (turn_is m.world e))

-- ---- an event

-- what is shown of it was added
pub event_done : (look : Unit {0}) (m : Monitor) (e : Event) (bytes : List ℕ) (before now : Option (List ℕ)) → bytes ≡ monitor_part m e → monitor_refusal m e ≡ None → now ≡ after_adding before bytes → EventDone monitor_mode look m e before now
event_done look m e bytes before now same admitted gained = record { admitted = admitted; gained = gained ∙ ap (after_adding before) same }

-- or a front of it
pub event_cut : (look : Unit {0}) (m : Monitor) (e : Event) (bytes : List ℕ) (before now : Option (List ℕ)) → bytes ≡ monitor_part m e → monitor_refusal m e ≡ None → AddsFront bytes before now → EventCut monitor_mode look m e before now
event_cut look m e bytes before now same admitted cut = record { admitted = admitted; gained = subst (λ (b : List ℕ). AddsFront b before now) same cut }

-- a fault, unless it is want of memory, is why the event isn't admitted
pub event_refused : (fault : WorldFault) (look : Unit {0}) (m : Monitor) (e : Event) (held : Option (List ℕ)) → (fault ≢ NoMemory → monitor_refusal m e ≡ Some fault) → EventPlayed monitor_mode {B = Option (List ℕ)} (Err fault) look m e held held
event_refused NoMemory look m e held refused = inl refl
event_refused Live look m e held refused = (refused (λ (f : Live ≡ NoMemory). cc), refl)
event_refused NotLive look m e held refused = (refused (λ (f : NotLive ≡ NoMemory). cc), refl)
event_refused NoSink look m e held refused = (refused (λ (f : NoSink ≡ NoMemory). cc), refl)
event_refused Worn look m e held refused = (refused (λ (f : Worn ≡ NoMemory). cc), refl)
event_refused (TooMany asked there) look m e held refused = (refused (λ (f : TooMany asked there ≡ NoMemory). cc), refl)

-- the stage after it
pub stands_on : (new : Monitoring) (look : Unit {0}) (header : Header) (events : List Event) (e : Event)
    → StandsForMonitor new.world (monitor_after (state_after monitor_course header events) e) → IsMonitored new look header (events ++ e ∷ [])
stands_on new look header events e stands = record {
  stands = subst (λ (m : Monitor). StandsForMonitor new.world m) (sym (state-push monitor_course (new_monitor header) events e)) stands;
}

-- ---- a whole session

admitted_run : (m : Monitor) (events : List Event) → AreAdmitted monitor_course m events → AreMonitored m events
admitted_run m [] a = tt
admitted_run m (e ∷ events) a = (a.0, admitted_run (monitor_after m e) events a.1)

some_no_none : {L : Type 0} (l : L) → Some l ≡ None → ⊥
some_no_none l e = cc

is_sieved : (header : Header) (events : List Event) → AreMonitored (new_monitor header) events → IsSieved header events
is_sieved header events all = record {
  admitted = run-admits (new_monitor header) events all;
  world = run-world (new_monitor header) events;
  shown = run-shown (new_monitor header) events;
  due = λ h output. run-due (new_monitor header) events output (all-sized header events h);
}

pub monitors : (answered : Status) (before after : Ends) (log_before log_after : Log) → Played monitor_mode tt answered before after log_before log_after → Monitors answered before after log_before log_after
monitors answered before after log_before log_after x =
    let p = plays monitor_mode tt answered before after log_before log_after x in
    record {
      plays = p;
      run = λ is. admitted_run (new_monitor (p.ok is).header) (p.ok is).events (p.ok is).played.admitted;
      sieved = λ is. is_sieved (p.ok is).header (p.ok is).events (admitted_run (new_monitor (p.ok is).header) (p.ok is).events (p.ok is).played.admitted);
      named = λ is. some_no_none tt (p.no_such_sink is).unnamed;
    }
