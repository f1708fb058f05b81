-- The outcome of an event in the code's world with monitors.
use Rattle.std.specs.Prelude.{◌≡◌, [], None, length}
use Rattle.std.specs.List.{concat}
use Rattle.px_session.specs.declared.event.Event.{Event}
use Rattle.px_world.specs.declared.outcome.Outcome.{Outcome}
use Rattle.px_world.specs.Event.{frames_played, stopped_by}
use Rattle.px_world.specs.Outcome.{IsOutcome}
use Rattle.px_sieve.specs.Scene.{shown_by}
use Rattle.px_monitor.specs.declared.monitor.MonitorOutcome.{MonitorOutcome}
use Rattle.px_monitor.specs.declared.parts.Parts.{Parts}
use Rattle.px_monitor.specs.Monitor.{Monitor, monitor_refusal, monitor_after, monitor_effects, alone, sent_after, StandsForMonitor}

-- the event was admitted; these are its effects, the frames that it played with their bytes, the filled count of a sink that it stopped, and what it sent to
-- record streams
pub record IsMonitorOutcome (outcome : MonitorOutcome) (m : Monitor) (e : Event) : Type 0 where
  pub admitted : monitor_refusal m e ≡ None
  pub effects : outcome.effects ≡ monitor_effects m e
  pub frames : outcome.frames ≡ length (frames_played m.world e)
  pub played : outcome.played ≡ concat (frames_played m.world e)
  pub stopped : outcome.stopped ≡ stopped_by m.world e
  pub sent : outcome.sent ≡ sent_after m e

-- the world got the event as it is, and the parts stand for this state
pub record Handles (parts : Parts) (after m : Monitor) (e : Event) (outcome : Outcome) : Type 0 where
  pub done : IsOutcome outcome m.world e
  pub stands : StandsForMonitor parts after

-- and nothing is sent to record streams
pub record IsQuiet (parts : Parts) (after m : Monitor) (e : Event) (outcome : MonitorOutcome) : Type 0 where
  pub admitted : monitor_refusal m e ≡ None
  pub effects : outcome.effects ≡ shown_by m.world (alone e)
  pub frames : outcome.frames ≡ length (frames_played m.world e)
  pub played : outcome.played ≡ concat (frames_played m.world e)
  pub stopped : outcome.stopped ≡ stopped_by m.world e
  pub sent : outcome.sent ≡ []
  pub stands : StandsForMonitor parts after

-- the event was admitted, with its outcome, and the parts stand for the state after it
pub record HasDone (parts : Parts) (m : Monitor) (e : Event) (outcome : MonitorOutcome) : Type 0 where
  pub done : IsMonitorOutcome outcome m e
  pub stands : StandsForMonitor parts (monitor_after m e)
