-- What a replay writes: the records of each event's effects and of the frames that it played, or of the sink that it stopped, in order, and then the end byte.
use Rattle.std.specs.Prelude.{◌≡◌, ℕ, cond, nat_eq, List, [], ◌∷◌, ◌++◌, length, Option, None, Some}
use Rattle.std.specs.List.{concat, flat_map}
use Rattle.px_header.specs.declared.header.Header.{Header}
use Rattle.px_session.specs.declared.event.Event.{Event}
use Rattle.px_session.specs.declared.event.Event.TheVariants.{Connect, Bytes, Close, Cut, Turn, Collect, Stop}
use Rattle.px_session.specs.Output.{sent_record, closed_record, played_record, stopped_record, ended_output}
use Rattle.px_state.specs.declared.effect.Effect.{Effect}
use Rattle.px_state.specs.declared.effect.Effect.TheVariants.{Sent, Closed}
use Rattle.px_state.specs.Effect.{reason_code}
use Rattle.px_world.specs.World.{World, new_world}
use Rattle.px_world.specs.Admission.{refusal_of}
use Rattle.px_world.specs.Event.{world_after, effects_after, frames_played, stopped_by}

-- ---- records

-- a frame that was sent to a connection, or a connection that the server ended
abbrev pub effect_record : Effect → List ℕ
effect_record (Sent conn packet) = sent_record conn.0 packet
effect_record (Closed conn reason fault at) = closed_record conn.0 (reason_code reason) fault at

-- the record of a turn that consumed at least one frame
abbrev pub if_played : ℕ → List (List ℕ) → List ℕ
if_played sink frames = cond (nat_eq (length frames) 0) [] (played_record sink (length frames) (concat frames))

-- the record of a turn that stopped its sink, with the sink's filled count; else that of a turn that played these frames
abbrev pub stopped_or_played : ℕ → Option ℕ → List (List ℕ) → List ℕ
stopped_or_played sink None frames = if_played sink frames
stopped_or_played sink (Some filled) frames = stopped_record sink filled

abbrev pub turn_record : World → Event → List ℕ
turn_record w (Connect conn) = []
turn_record w (Bytes conn bytes) = []
turn_record w (Close conn) = []
turn_record w (Cut conn) = []
turn_record w (Turn sink frames n) = stopped_or_played sink (stopped_by w (Turn sink frames n)) (frames_played w (Turn sink frames n))
turn_record w (Collect sink n) = []
turn_record w (Stop sink) = []

abbrev pub records_of : World → Event → List ℕ
records_of w e = flat_map effect_record (effects_after w e) ++ turn_record w e

-- ---- a run

-- the world after the events, in order
abbrev pub world_by : World → List Event → World
world_by w [] = w
world_by w (e ∷ events) = world_by (world_after w e) events

-- the records of all of them
abbrev pub records_by : World → List Event → List ℕ
records_by w [] = []
records_by w (e ∷ events) = records_of w e ++ records_by (world_after w e) events

-- the effects of all of them
abbrev pub effects_by_run : World → List Event → List Effect
effects_by_run w [] = []
effects_by_run w (e ∷ events) = effects_after w e ++ effects_by_run (world_after w e) events

-- each event is admitted by the world after those before it
abbrev pub AreAdmitted : World → List Event → Type 0
AreAdmitted w [] = Unit {0}
AreAdmitted w (e ∷ events) = (refusal_of w e ≡ None) × AreAdmitted (world_after w e) events

-- the output of a session of admitted events
abbrev pub output_of : Header → List Event → List ℕ
output_of header events = ended_output (records_by (new_world header) events)
