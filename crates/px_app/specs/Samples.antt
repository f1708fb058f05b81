-- What a replay with a sample cache leaves: the records of all that the server did, but on the connection of its own.
use Rattle.std.specs.Prelude.{◌≡◌, ◌≢◌, ℕ, List, [], ◌∷◌, ◌++◌, Some}
use Rattle.std.specs.List.{flat_map}
use Rattle.px_types.specs.declared.status.Status.{Status}
use Rattle.px_types.specs.declared.status.Status.TheVariants as status
use Rattle.px_header.specs.declared.header.Header.{Header}
use Rattle.px_session.specs.declared.event.Event.{Event}
use Rattle.px_session.specs.Spelling.{end_byte}
use Rattle.px_world.specs.World.{new_world}
use Rattle.px_world.specs.Output.{effect_record, turn_record, world_by, AreAdmitted as IsRun}
use Rattle.px_sieve.specs.Scene.{inner, shown_by}
use Rattle.px_scache.specs.Cache.{cache_of}
use Rattle.px_cache_world.specs.Sampler.{Sampler, new_sampler, greeting, sampler_refusal, sampler_after, sampler_effects, open_effects, StandsForSampler}
use Rattle.px_cache_world.specs.Run.{sampler_by, AreSampled, items_by, effects_shown, changes_by}
use Rattle.px_app.specs.declared.sample_stage.Sampling.{Sampling}
use Rattle.px_app.specs.Ends.{Ends, Log}
use Rattle.px_app.specs.Mode.{Course, Mode, state_after}
use Rattle.px_app.specs.Plays.{Plays}

-- the events are done by a world with a sample cache, which may not admit one
abbrev pub sample_course : Course Sampler
sample_course = record { first = new_sampler; refuses = sampler_refusal; after = sampler_after }

-- the records of an event: of its effects, and of a turn's stop or sound
abbrev pub sample_part : Sampler → Event → List ℕ
sample_part s e = flat_map effect_record (sampler_effects s e) ++ turn_record s.world e

abbrev pub sample_mode : Mode Sampler (Unit {0}) (Unit {0})
sample_mode = record {
  course = sample_course;
  looks = λ asked header. Some tt;
  opens = λ look header. [];
  shows = λ look s e. sample_part s e;
  closes = λ look header events. end_byte ∷ [];
}

-- the stage stands after these events of a session with this header
pub record IsSampled (stage : Sampling) (look : Unit {0}) (header : Header) (events : List Event) : Type 0 where
  pub stands : StandsForSampler stage.world (state_after sample_course header events)

-- what the events of a session are in a world with a sample cache
pub record IsKept (header : Header) (events : List Event) : Type 0 where
  -- the world admits the events that it gets, those on the server's own connection among them, one after the other, and stands after them
  pub admitted : IsRun (new_world header) (greeting header.cookie ++ inner (items_by (new_sampler header) events))
  pub world : (sampler_by (new_sampler header) events).world ≡ world_by (new_world header) (greeting header.cookie ++ inner (items_by (new_sampler header) events))
  -- what is shown are their effects but for those on that connection, with the replies to the commands on samples in their places
  pub shown : effects_shown (new_sampler header) events ≡ open_effects (shown_by (new_sampler header).world (items_by (new_sampler header) events))
  -- the samples are those of the uploads that were finished and not removed
  pub kept : (sampler_by (new_sampler header) events).store.cache ≡ cache_of (changes_by (new_sampler header) events)

-- The session was played in the mode of samples, and the status says what was done of it.
pub record Samples (answered : Status) (before after : Ends) (log_before log_after : Log) : Type 0 where
  pub plays : Plays sample_mode tt answered before after log_before log_after
  -- where it was played whole, its events are a run of the world with a sample cache
  pub run : (is : answered ≡ status.Ok) → AreSampled (new_sampler (plays.ok is).header) (plays.ok is).events
  pub kept : (is : answered ≡ status.Ok) → IsKept (plays.ok is).header (plays.ok is).events
  -- nothing is asked of the header
  pub named : answered ≢ status.NoSuchSink
