-- What an event does to a world with ramps: outside the mixers what it does to the plain world, and in a turn's mixer the ramped turn.
use Rattle.std.specs.Prelude.{ℕ, true, false, cond, List, ◌++◌, drop, set, Option, None, Some}
use Rattle.std.specs.List.{slice_get}
use Rattle.px_session.specs.declared.event.Event.{Event}
use Rattle.px_session.specs.declared.event.Event.TheVariants.{Connect, Bytes, Close, Cut, Turn, Collect, Stop}
use Rattle.px_model.specs.Stream.{Stream}
use Rattle.px_model.specs.Message.{Message}
use Rattle.px_model.specs.Turn.{turn_notices, stopped_notices}
use Rattle.px_stream.specs.Samples.{samples}
use Rattle.px_ramp.specs.RampMix.{ramp_turned, ramp_stopped}
use Rattle.px_world.specs.Event.{messages_taken, is_to_stop, world_after}
use Rattle.px_ramp_world.specs.World.{RampedMixer, RampWorld, plain_mixer, plain_of}

-- ---- the mixers

abbrev pub ramped_stopped : RampedMixer → List (Message Stream) → RampedMixer
ramped_stopped m messages = record m {
  ramped = ramp_stopped m.ramp m.ramped messages;
  notices = m.notices ++ stopped_notices m.ramped.sink messages;
  failing = false;
}

abbrev pub ramped_played : RampedMixer → ℕ → List (Message Stream) → RampedMixer
ramped_played m frames messages = record m {
  ramped = ramp_turned samples m.ramp m.ramped frames messages;
  notices = m.notices ++ turn_notices samples m.ramped.sink frames messages;
  failing = false;
}

abbrev pub ramped_turned : RampedMixer → ℕ → List (Message Stream) → RampedMixer
ramped_turned m frames messages = cond (is_to_stop (plain_mixer m)) (ramped_stopped m messages) (ramped_played m frames messages)

abbrev pub ramped_collected : RampedMixer → ℕ → RampedMixer
ramped_collected m n = record m { notices = drop n m.notices }

-- the sink's device will fail at the next turn, unless the sink is stopped
abbrev pub ramped_to_fail : RampedMixer → RampedMixer
ramped_to_fail m = cond m.ramped.sink.stopped m (record m { failing = true })

abbrev pub change_ramped : List RampedMixer → ℕ → Option RampedMixer → (RampedMixer → RampedMixer) → List RampedMixer
change_ramped mixers sink None change = mixers
change_ramped mixers sink (Some m) change = set mixers sink (change m)

abbrev pub ramped_after : RampWorld → Event → List RampedMixer
ramped_after w (Connect conn) = w.mixers
ramped_after w (Bytes conn bytes) = w.mixers
ramped_after w (Close conn) = w.mixers
ramped_after w (Cut conn) = w.mixers
ramped_after w (Turn sink frames n) = change_ramped w.mixers sink (slice_get w.mixers sink) (λ m. ramped_turned m frames (messages_taken (plain_of w) sink n))
ramped_after w (Collect sink n) = change_ramped w.mixers sink (slice_get w.mixers sink) (λ m. ramped_collected m n)
ramped_after w (Stop sink) = change_ramped w.mixers sink.0 (slice_get w.mixers sink.0) ramped_to_fail

-- ---- the event

-- the world after an event; its refusals, its effects, the frames that it plays and the sink that it stops are those of the plain world
abbrev pub ramp_world_after : RampWorld → Event → RampWorld
ramp_world_after w e = record {
  core = (world_after (plain_of w) e).core;
  links = (world_after (plain_of w) e).links;
  mixers = ramped_after w e;
}
