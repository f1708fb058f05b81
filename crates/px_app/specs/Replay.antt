-- What a replay of a session leaves: the world stands after its events, each frame that a sink played is the mix of its streams, and each status says
-- what was done.
use Rattle.std.specs.Prelude.{◌≡◌, List, Option, None}
use Rattle.px_header.specs.declared.header.Header.{Header}
use Rattle.px_session.specs.declared.event.Event.{Event}
use Rattle.px_types.specs.declared.status.Status.{Status}
use Rattle.px_types.specs.declared.status.Status.TheVariants as status
use Rattle.px_world.specs.World.{new_world}
use Rattle.px_world.specs.Running.{StandsFor}
use Rattle.px_world.specs.History.{AreDecided}
use Rattle.px_app.specs.declared.ending.Ending.{Ending}
use Rattle.px_app.specs.declared.ending.Ending.TheVariants as ending
use Rattle.px_app.specs.declared.replay_stage.Replaying.{Replaying}
use Rattle.px_app.specs.declared.view.Lens.{Lens}
use Rattle.px_app.specs.Ends.{Ends, Log}
use Rattle.px_app.specs.Mode.{state_after}
use Rattle.px_app.specs.Plays.{Plays}
use Rattle.px_app.specs.Summary.{tally_by}
use Rattle.px_app.specs.View.{Shown, world_course, replay_mode}

-- the stage stands after these events of a session with this header: its world is the one after them, and they are counted
pub record IsAfter (stage : Replaying) (l : Lens) (header : Header) (events : List Event) : Type 0 where
  pub looks : stage.lens ≡ l
  pub head : stage.header ≡ header
  pub stands : StandsFor stage.world (state_after world_course header events)
  pub counted : stage.tally ≡ tally_by (new_world header) events

-- why there is no stage: no sink has the requested name, or memory ran out
abbrev pub Unmade : Ending → Option Lens → Type 0
Unmade ending.NoSuchSink looked = looked ≡ None
Unmade ending.Memory looked = Unit {0}
Unmade other looked = ⊥

-- The session was played in the mode of a replay, and the status says what was done of it.
pub record Replays (shown : Shown) (answered : Status) (before after : Ends) (log_before log_after : Log) : Type 0 where
  pub plays : Plays replay_mode shown answered before after log_before log_after
  -- where it was played whole, each frame that a sink played is the mix of its streams after the deciding turn
  pub decided : (is : answered ≡ status.Ok) → AreDecided (plays.ok is).header (plays.ok is).events
