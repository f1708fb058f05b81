-- What an event does to the parts of a world that runs.
use Rattle.std.specs.Prelude.{◌≡◌, ℕ, Bool, true, false, List, [], map, None, Some, length, Result, Ok, Err}
use Rattle.std.specs.List.{concat}
use Rattle.px_frame.specs.Progress.{Progress}
use Rattle.px_session.specs.declared.event.Event.{Event}
use Rattle.px_model.specs.Stream.{Stream}
use Rattle.px_state.specs.declared.effect.Effect.{Effect}
use Rattle.px_state.specs.State.{State}
use Rattle.px_core.specs.Step.{stepped_by, effects_by}
use Rattle.px_world.specs.declared.fault.WorldFault.{WorldFault}
use Rattle.px_world.specs.declared.fault.WorldFault.TheVariants.{Live, NotLive, NoSink, Worn, TooMany, NoMemory}
use Rattle.px_world.specs.declared.outcome.Outcome.{Outcome}
use Rattle.px_world.specs.declared.playing.Playing.{Playing}
use Rattle.px_world.specs.World.{World, Mixer}
use Rattle.px_world.specs.Playing.{mixer_of}
use Rattle.px_world.specs.Admission.{refusal_of}
use Rattle.px_world.specs.Event.{all_steps, links_after, mixers_after, world_after, frames_played, stopped_by}
use Rattle.px_world.specs.Outcome.{IsOutcome}
use Rattle.px_world.specs.Running.{Running, Open, StandsFor}

-- a fact that holds unless memory ran out
abbrev pub Unless : WorldFault → Type 0 → Type 0
Unless Live fact = fact
Unless NotLive fact = fact
Unless NoSink fact = fact
Unless Worn fact = fact
Unless (TooMany asked there) fact = fact
Unless NoMemory fact = Unit {0}

-- An answer, taken apart: one fact of a result, another of a refusal; none where memory ran out.
abbrev pub Answered : {A : Type 0} → Result A WorldFault → (A → Type 0) → (WorldFault → Type 0) → Type 0
Answered (Ok x) done refused = done x
Answered (Err fault) done refused = Unless fault (refused fault)

-- the world doesn't admit the event, for this cause
abbrev pub IsRefused : World → Event → WorldFault → Type 0
IsRefused w e fault = refusal_of w e ≡ Some fault

-- memory ran out, so what was under way is lost
abbrev pub loses : WorldFault → Bool
loses Live = false
loses NotLive = false
loses NoSink = false
loses Worn = false
loses (TooMany asked there) = false
loses NoMemory = true

-- the world with these parts
abbrev pub running_of : State Stream → List (ℕ × Progress) → List Playing → Running
running_of core doors mixers = record { core = core; doors = doors; mixers = map mixer_of mixers }

-- ---- an event of a connection

-- the event was admitted: the core has done its steps, and the doors are open to the links after it
pub record Does (before after : State Stream) (doors : List (ℕ × Progress)) (w : World) (e : Event) (effects : List Effect) : Type 0 where
  pub admitted : refusal_of w e ≡ None
  pub core : after ≡ stepped_by Stream.spec before (all_steps w e)
  pub opened : Open doors (links_after w.links e)
  pub caused : effects ≡ effects_by Stream.spec before (all_steps w e)

-- ---- an event of a sink

-- the event was admitted: the core has done its steps, and the sink's mixer its part
pub record Plays (before after : State Stream) (mixers : List Mixer) (w : World) (e : Event) (outcome : Outcome) : Type 0 where
  pub admitted : refusal_of w e ≡ None
  pub core : after ≡ stepped_by Stream.spec before (all_steps w e)
  pub mixed : mixers ≡ mixers_after w e
  pub caused : outcome.effects ≡ effects_by Stream.spec before (all_steps w e)
  pub counted : outcome.frames ≡ length (frames_played w e)
  pub bytes : outcome.played ≡ concat (frames_played w e)
  pub stopped : outcome.stopped ≡ stopped_by w e

-- ---- an outcome with no sound, of an event that stops no sink

pub record HasNoSound (effects : List Effect) (outcome : Outcome) : Type 0 where
  pub caused : outcome.effects ≡ effects
  pub counted : outcome.frames ≡ 0
  pub bytes : outcome.played ≡ []
  pub stopped : outcome.stopped ≡ None

abbrev pub IsSilent : Result (List Effect) WorldFault → Result Outcome WorldFault → Type 0
IsSilent (Ok effects) (Ok outcome) = HasNoSound effects outcome
IsSilent (Ok effects) (Err fault) = ⊥
IsSilent (Err fault) (Ok outcome) = ⊥
IsSilent (Err fault) (Err other) = other ≡ fault

-- ---- any event

-- the event was admitted, with its outcome, and the world after it runs
pub record Runs (after : Running) (w : World) (e : Event) (outcome : Outcome) : Type 0 where
  pub done : IsOutcome outcome w e
  pub stands : StandsFor after (world_after w e)
