-- The events of a world with monitors, from what its parts do.
use Rattle.std.proofs.Common.{◌≡◌, ℕ, true, false, List, [], Option, None, Some, Result, Ok, Err, refl, ap, sym, subst, ◌∙◌}
use Rattle.std.specs.Option.{is_some}
use Rattle.std.specs.List.{concat}
use Rattle.px_types.specs.declared.ids.ConnId.{ConnId}
use Rattle.px_types.specs.declared.ids.SinkId.{SinkId}
use Rattle.px_session.specs.declared.event.Event.{Event}
use Rattle.px_session.specs.declared.event.Event.TheVariants.{Connect, Close, Cut, Turn, Collect, Stop}
use Rattle.px_state.specs.declared.effect.Effect.{Effect}
use Rattle.px_world.specs.declared.fault.WorldFault.{WorldFault}
use Rattle.px_world.specs.declared.fault.WorldFault.TheVariants.{Live, NotLive, NoSink, Worn, TooMany, NoMemory}
use Rattle.px_world.specs.declared.outcome.Outcome.{Outcome}
use Rattle.px_world.specs.Admission.{if_named}
use Rattle.px_world.specs.Event.{effects_after, frames_played}
use Rattle.px_world.specs.Parts.{Unless, Answered}
use Rattle.px_world.specs.World.{Link}
use Rattle.px_monitor.specs.declared.monitor.MonitorOutcome.{MonitorOutcome}
use Rattle.px_monitor.specs.declared.parts.Parts.{Parts}
use Rattle.px_monitor.specs.Fragments.{sent_of}
use Rattle.px_monitor.specs.Records.{Records}
use Rattle.px_monitor.specs.Monitor.{Monitor, running_on, seeing, after_items, alone, forgotten, StandsForMonitor}
use Rattle.px_monitor.specs.MonitorOutcome.{Handles, IsQuiet, HasDone}
use Rattle.px_monitor.proofs.Partly.{shown-alone}

-- ---- answers

-- a fact of a fault that isn't want of memory
pub unless-refused : (fault : WorldFault) (fact : Type 0) → ((fault ≡ NoMemory → ⊥) → fact) → Unless fault fact
unless-refused Live fact h = h (λ e. cc)
unless-refused NotLive fact h = h (λ e. cc)
unless-refused NoSink fact h = h (λ e. cc)
unless-refused Worn fact h = h (λ e. cc)
unless-refused (TooMany asked there) fact h = h (λ e. cc)
unless-refused NoMemory fact h = tt

-- another fact of an answer
pub answered-as : {A : Type 0} (P Q : A → Type 0) (R : WorldFault → Type 0) (r : Result A WorldFault) → ((x : A) → P x → Q x) → Answered r P R → Answered r Q R
answered-as P Q R (Ok x) f a = f x a
answered-as P Q R (Err fault) f a = a

-- a number that is in use, or isn't
pub in-use : (o : Option Link) → true ≡ is_some o → if_named o ≡ None
in-use None e = absurd cc
in-use (Some link) e = refl

pub not-in-use : (o : Option Link) → false ≡ is_some o → if_named o ≡ Some NotLive
not-in-use None e = refl
not-in-use (Some link) e = absurd cc

-- ---- an event that the world gets as it is

pub after-alone : (m : Monitor) (e : Event) (effects : List Effect) (parts : Parts) → effects ≡ effects_after m.world e → StandsForMonitor parts (seeing effects (running_on m (alone e)))
    → StandsForMonitor parts (after_items m (alone e))
after-alone m e effects parts is stands = subst (λ es. StandsForMonitor parts (seeing es (running_on m (alone e)))) (shown-alone m.world e effects is) stands

pub quiet-is : (m : Monitor) (e : Event) (parts : Parts) (outcome : Outcome) (result : MonitorOutcome) → Handles parts (after_items m (alone e)) m e outcome
    → result ≡ record { effects = outcome.effects; played = outcome.played; frames = outcome.frames; stopped = outcome.stopped; sent = [] } → IsQuiet parts (after_items m (alone e)) m e result
quiet-is m e parts outcome result h is =
    subst (IsQuiet parts (after_items m (alone e)) m e) (sym is)
    (record {
      admitted = h.done.admitted;
      effects = shown-alone m.world e outcome.effects h.done.effects;
      frames = h.done.frames;
      played = h.done.played;
      stopped = h.done.stopped;
      sent = refl;
      stands = h.stands;
    })

module _ (m : Monitor) (parts : Parts) (outcome : MonitorOutcome) where
  pub connect-done : (conn : ConnId) → IsQuiet parts (after_items m (alone (Connect conn))) m (Connect conn) outcome → HasDone parts m (Connect conn) outcome
  connect-done conn q = record {
    done = record { admitted = q.admitted; effects = q.effects; frames = q.frames; played = q.played; stopped = q.stopped; sent = q.sent };
    stands = q.stands;
  }

  pub cut-done : (conn : ConnId) → IsQuiet parts (after_items m (alone (Cut conn))) m (Cut conn) outcome → HasDone parts m (Cut conn) outcome
  cut-done conn q = record {
    done = record { admitted = q.admitted; effects = q.effects; frames = q.frames; played = q.played; stopped = q.stopped; sent = q.sent };
    stands = q.stands;
  }

  pub collect-done : (sink n : ℕ) → IsQuiet parts (after_items m (alone (Collect sink n))) m (Collect sink n) outcome → HasDone parts m (Collect sink n) outcome
  collect-done sink n q = record {
    done = record { admitted = q.admitted; effects = q.effects; frames = q.frames; played = q.played; stopped = q.stopped; sent = q.sent };
    stands = q.stands;
  }

  pub stop-done : (sink : SinkId) → IsQuiet parts (after_items m (alone (Stop sink))) m (Stop sink) outcome → HasDone parts m (Stop sink) outcome
  stop-done sink q = record {
    done = record { admitted = q.admitted; effects = q.effects; frames = q.frames; played = q.played; stopped = q.stopped; sent = q.sent };
    stands = q.stands;
  }

-- ---- a connection is closed, and a turn

pub close-done : (m : Monitor) (conn : ConnId) (parts later : Parts) (outcome : Outcome) (result : MonitorOutcome) → Handles parts (after_items m (alone (Close conn))) m (Close conn) outcome
    → result ≡ record { effects = outcome.effects; played = outcome.played; frames = outcome.frames; stopped = outcome.stopped; sent = [] }
    → StandsForMonitor later (forgotten conn (after_items m (alone (Close conn)))) → HasDone later m (Close conn) result
close-done m conn parts later outcome result h is stands =
    let q = quiet-is m (Close conn) parts outcome result h is in
    record {
      done = record { admitted = q.admitted; effects = q.effects; frames = q.frames; played = q.played; stopped = q.stopped; sent = q.sent };
      stands = stands;
    }

pub turn-done : (m : Monitor) (sink frames n : ℕ) (parts : Parts) (outcome : Outcome) (slice : List ℕ) (sent : List Effect) → Handles parts (after_items m (alone (Turn sink frames n))) m (Turn sink frames n) outcome
    → slice ≡ outcome.played → sent ≡ sent_of (record { 0 = sink }) slice parts.records.streams
    → HasDone parts m (Turn sink frames n) (record { effects = outcome.effects; played = outcome.played; frames = outcome.frames; stopped = outcome.stopped; sent = sent })
turn-done m sink frames n parts outcome slice sent h bytes is = record {
  done = record {
    admitted = h.done.admitted;
    effects = shown-alone m.world (Turn sink frames n) outcome.effects h.done.effects;
    frames = h.done.frames;
    played = h.done.played;
    stopped = h.done.stopped;
    sent = is ∙ ap (λ l. sent_of (record { 0 = sink }) l parts.records.streams) (bytes ∙ h.done.played)
        ∙ ap (λ (r : Records). sent_of (record { 0 = sink }) (concat (frames_played m.world (Turn sink frames n))) r.streams) h.stands.records;
  };
  stands = h.stands;
}
