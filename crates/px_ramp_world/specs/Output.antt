-- A run of a world with ramps, and what its replay writes: the records of each event's effects and of the frames that it played, and then the end byte.
use Rattle.std.specs.Prelude.{◌≡◌, ℕ, List, [], ◌∷◌, ◌++◌, None}
use Rattle.px_header.specs.declared.header.Header.{Header}
use Rattle.px_session.specs.declared.event.Event.{Event}
use Rattle.px_session.specs.Output.{ended_output}
use Rattle.px_state.specs.declared.effect.Effect.{Effect}
use Rattle.px_world.specs.Admission.{refusal_of}
use Rattle.px_world.specs.Event.{effects_after}
use Rattle.px_world.specs.Output.{records_of}
use Rattle.px_ramp_world.specs.World.{RampWorld, new_ramp_world, plain_of}
use Rattle.px_ramp_world.specs.Event.{ramp_world_after}

-- the world after the events, in order
abbrev pub ramp_world_by : RampWorld → List Event → RampWorld
ramp_world_by w [] = w
ramp_world_by w (e ∷ events) = ramp_world_by (ramp_world_after w e) events

-- the records of all of them
abbrev pub ramp_records_by : RampWorld → List Event → List ℕ
ramp_records_by w [] = []
ramp_records_by w (e ∷ events) = records_of (plain_of w) e ++ ramp_records_by (ramp_world_after w e) events

-- the effects of all of them
abbrev pub ramp_effects_by : RampWorld → List Event → List Effect
ramp_effects_by w [] = []
ramp_effects_by w (e ∷ events) = effects_after (plain_of w) e ++ ramp_effects_by (ramp_world_after w e) events

-- each event is admitted by the world after those before it
abbrev pub AreRampAdmitted : RampWorld → List Event → Type 0
AreRampAdmitted w [] = Unit {0}
AreRampAdmitted w (e ∷ events) = (refusal_of (plain_of w) e ≡ None) × AreRampAdmitted (ramp_world_after w e) events

-- the output of a session of admitted events, for ramps over n frames
abbrev pub ramp_output_of : ℕ → Header → List Event → List ℕ
ramp_output_of n header events = ended_output (ramp_records_by (new_ramp_world n header) events)
