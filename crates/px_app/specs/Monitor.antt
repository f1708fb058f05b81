-- What a replay with monitors leaves: the records of all that the server did, and after the sound of a turn the data frames that carry it to record
-- streams.
use Rattle.std.specs.Prelude.{◌≡◌, ◌≢◌, ℕ, List, [], ◌∷◌, ◌++◌, Some}
use Rattle.std.specs.List.{flat_map}
use Rattle.px_types.specs.declared.status.Status.{Status}
use Rattle.px_types.specs.declared.status.Status.TheVariants as status
use Rattle.px_header.specs.declared.header.Header.{Header}
use Rattle.px_header.specs.HeaderRules.{IsHeader}
use Rattle.px_session.specs.declared.event.Event.{Event}
use Rattle.px_session.specs.Spelling.{end_byte}
use Rattle.px_world.specs.World.{new_world}
use Rattle.px_world.specs.Output.{effect_record, turn_record, world_by, AreAdmitted as IsRun}
use Rattle.px_sieve.specs.Scene.{inner, shown_by}
use Rattle.px_monitor.specs.Monitor.{Monitor, new_monitor, monitor_refusal, monitor_after, monitor_effects, sent_after, StandsForMonitor}
use Rattle.px_monitor.specs.Run.{monitor_by, AreMonitored, items_by, effects_shown, due_by, sent_by, payloads}
use Rattle.px_app.specs.declared.monitor_stage.Monitoring.{Monitoring}
use Rattle.px_app.specs.Ends.{Ends, Log}
use Rattle.px_app.specs.Mode.{Course, Mode, state_after}
use Rattle.px_app.specs.Plays.{Plays}

-- the events are done by a world with monitors, which may not admit one
abbrev pub monitor_course : Course Monitor
monitor_course = record { first = new_monitor; refuses = monitor_refusal; after = monitor_after }

-- the records of an event: of its effects, of a turn's stop or sound, and of what record streams are sent
abbrev pub monitor_part : Monitor → Event → List ℕ
monitor_part m e = flat_map effect_record (monitor_effects m e) ++ turn_record m.world e ++ flat_map effect_record (sent_after m e)

abbrev pub monitor_mode : Mode Monitor (Unit {0}) (Unit {0})
monitor_mode = record {
  course = monitor_course;
  looks = λ asked header. Some tt;
  opens = λ look header. [];
  shows = λ look m e. monitor_part m e;
  closes = λ look header events. end_byte ∷ [];
}

-- the stage stands after these events of a session with this header
pub record IsMonitored (stage : Monitoring) (look : Unit {0}) (header : Header) (events : List Event) : Type 0 where
  pub stands : StandsForMonitor stage.world (state_after monitor_course header events)

-- what the events of a session are in a world with monitors
pub record IsSieved (header : Header) (events : List Event) : Type 0 where
  -- the world admits the events that it gets, one after the other, and stands after them
  pub admitted : IsRun (new_world header) (inner (items_by (new_monitor header) events))
  pub world : (monitor_by (new_monitor header) events).world ≡ world_by (new_world header) (inner (items_by (new_monitor header) events))
  -- what is shown are their effects, with the replies to the commands of record streams in their places
  pub shown : effects_shown (new_monitor header) events ≡ shown_by (new_world header) (items_by (new_monitor header) events)
  -- what is sent to each record stream, joined, are the bytes that its sink plays from its creation to its end
  pub due : IsHeader header → (output : ℕ) → payloads (sent_by (new_monitor header) events output) ≡ due_by (new_monitor header) events output

-- The session was played in the mode of monitors, and the status says what was done of it.
pub record Monitors (answered : Status) (before after : Ends) (log_before log_after : Log) : Type 0 where
  pub plays : Plays monitor_mode tt answered before after log_before log_after
  -- where it was played whole, its events are a run of the world with monitors
  pub run : (is : answered ≡ status.Ok) → AreMonitored (new_monitor (plays.ok is).header) (plays.ok is).events
  pub sieved : (is : answered ≡ status.Ok) → IsSieved (plays.ok is).header (plays.ok is).events
  -- nothing is asked of the header
  pub named : answered ≢ status.NoSuchSink
