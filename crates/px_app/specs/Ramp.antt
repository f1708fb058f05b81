-- What a replay with ramps leaves: the records of all that the server did, with the frames of turns as ramps make them.
use Rattle.std.specs.Prelude.{◌≡◌, ◌≢◌, ℕ, List, [], ◌∷◌, Some}
use Rattle.px_types.specs.declared.status.Status.{Status}
use Rattle.px_types.specs.declared.status.Status.TheVariants as status
use Rattle.px_ends.specs.Visible.{after_adding}
use Rattle.px_header.specs.declared.header.Header.{Header}
use Rattle.px_session.specs.declared.event.Event.{Event}
use Rattle.px_session.specs.Spelling.{end_byte}
use Rattle.px_world.specs.World.{World, new_world}
use Rattle.px_world.specs.Admission.{refusal_of}
use Rattle.px_world.specs.Event.{world_after}
use Rattle.px_world.specs.Output.{records_of, effects_by_run, AreAdmitted as IsRun}
use Rattle.px_ramp_world.specs.World.{RampWorld, new_ramp_world, plain_of}
use Rattle.px_ramp_world.specs.Event.{ramp_world_after}
use Rattle.px_ramp_world.specs.History.{AreRampDecided}
use Rattle.px_ramp_world.specs.Output.{ramp_effects_by, ramp_output_of, AreRampAdmitted}
use Rattle.px_ramp_world.specs.Running.{StandsFor}
use Rattle.px_app.specs.declared.ramp_stage.Ramping.{Ramping}
use Rattle.px_app.specs.Ends.{Ends, Log}
use Rattle.px_app.specs.Mode.{Course, Mode, state_after}
use Rattle.px_app.specs.Plays.{Plays}

-- The plain world, and for each number of frames the world whose ramps take so many: what is admitted doesn't depend on ramps.
pub record Ramped : Type 0 where
  pub plain : World
  pub over : ℕ → RampWorld

abbrev pub new_ramped : Header → Ramped
new_ramped header = record { plain = new_world header; over = λ n. new_ramp_world n header }

abbrev pub ramped_after : Ramped → Event → Ramped
ramped_after s e = record { plain = world_after s.plain e; over = λ n. ramp_world_after (s.over n) e }

-- the events are done by a world with ramps, which admits what the plain world does
abbrev pub ramp_course : Course Ramped
ramp_course = record { first = new_ramped; refuses = λ s e. refusal_of s.plain e; after = ramped_after }

-- the records of an event: of its effects, and of a turn's stop or sound, by ramps over n frames
abbrev pub ramp_part : ℕ → Ramped → Event → List ℕ
ramp_part n s e = records_of (plain_of (s.over n)) e

-- a session is looked at with ramps over as many frames as are asked for
abbrev pub ramp_mode : Mode Ramped ℕ ℕ
ramp_mode = record {
  course = ramp_course;
  looks = λ n header. Some n;
  opens = λ n header. [];
  shows = ramp_part;
  closes = λ n header events. end_byte ∷ [];
}

-- the stage stands after these events of a session with this header, by ramps over n frames
pub record IsRamped (stage : Ramping) (n : ℕ) (header : Header) (events : List Event) : Type 0 where
  pub stands : StandsFor stage.world ((state_after ramp_course header events).over n)

-- what the events of a session are in a world with ramps over n frames
pub record IsMadeByRamps (n : ℕ) (header : Header) (events : List Event) : Type 0 where
  -- the world admits them, one after the other, as the plain world does, and with the same effects
  pub run : AreRampAdmitted (new_ramp_world n header) events
  pub plain : IsRun (new_world header) events
  pub effects : ramp_effects_by (new_ramp_world n header) events ≡ effects_by_run (new_world header) events
  -- each frame that a sink plays is the mix of its streams after the deciding turn, by the ramps that this turn left
  pub decided : AreRampDecided n header events

-- The session was played in the mode of ramps over n frames, and the status says what was done of it.
pub record Ramps (n : ℕ) (answered : Status) (before after : Ends) (log_before log_after : Log) : Type 0 where
  pub plays : Plays ramp_mode n answered before after log_before log_after
  -- where it was played whole, its events are a run of the world with ramps, and each frame is what its deciding turn made of it
  pub made : (is : answered ≡ status.Ok) → IsMadeByRamps n (plays.ok is).header (plays.ok is).events
  -- and what the output gained is the output of that run
  pub gained : (is : answered ≡ status.Ok) → after.held ≡ after_adding before.held (ramp_output_of n (plays.ok is).header (plays.ok is).events)
  -- nothing is asked of the header
  pub named : answered ≢ status.NoSuchSink
