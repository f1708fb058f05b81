-- What an event does to a world: a list of steps of the core that ends with a sweep, and at most one turn of a sink.
use Rattle.std.specs.Prelude.{ℕ, Bool, true, false, cond, ◌&&◌, ◌||◌, List, [], ◌∷◌, ◌++◌, map, filter, not, length, take, drop, replicate, set, Option, None, Some}
use Rattle.std.specs.List.{slice_get}
use Rattle.px_types.specs.declared.ids.ConnId.{ConnId}
use Rattle.px_frame.specs.declared.frame.Frame.{Frame}
use Rattle.px_frame.specs.Reading.{Ending, Unfinished, Broken}
use Rattle.px_frame.specs.Meaning.{frames_in, ending_in}
use Rattle.px_session.specs.declared.event.Event.{Event}
use Rattle.px_session.specs.declared.event.Event.TheVariants.{Connect, Bytes, Close, Cut, Turn, Collect, Stop}
use Rattle.px_model.specs.Stream.{Stream}
use Rattle.px_model.specs.Message.{Message}
use Rattle.px_model.specs.Turn.{turned, turn_notices, stopped_turn, stopped_notices, played_by}
use Rattle.px_stream.specs.Samples.{samples}
use Rattle.px_model.specs.Notice.{Notice}
use Rattle.px_msg.specs.View.{message_of, notice_for}
use Rattle.px_state.specs.declared.effect.Effect.{Effect}
use Rattle.px_state.specs.Out.{waiting_for}
use Rattle.px_core.specs.Step.{Step, connect, frame, broken, close, cut, sweep, notice, out, stepped_by, effects_by}
use Rattle.px_world.specs.World.{World, Link, Mixer, is_of, link_of, received_of}

-- ---- the steps of the core

-- the frames that `bytes` complete on a link that has received `received`
abbrev pub new_frames : List ℕ → List ℕ → List Frame
new_frames received bytes = drop (length (frames_in received)) (frames_in (received ++ bytes))

-- the step for the fault of a connection's bytes, if there is one
abbrev pub fault_steps : ConnId → Ending → List (Step Stream)
fault_steps conn Unfinished = []
fault_steps conn (Broken fault at) = broken conn fault at ∷ []

abbrev pub new_fault : ConnId → Ending → Ending → List (Step Stream)
new_fault conn Unfinished now = fault_steps conn now
new_fault conn (Broken fault at) now = []

abbrev pub bytes_steps : ConnId → List ℕ → List ℕ → List (Step Stream)
bytes_steps conn received bytes =
    map (frame conn) (new_frames received bytes) ++ new_fault conn (ending_in received) (ending_in (received ++ bytes))

-- the pending notices of a sink's mixer, if it is there
abbrev pub notices_of : Option Mixer → List (Notice Stream)
notices_of None = []
notices_of (Some m) = m.notices

abbrev pub steps_of : World → Event → List (Step Stream)
steps_of w (Connect conn) = connect conn ∷ []
steps_of w (Bytes conn bytes) = bytes_steps conn (received_of (link_of w.links conn)) bytes
steps_of w (Close conn) = close conn ∷ []
steps_of w (Cut conn) = cut conn ∷ []
steps_of w (Turn sink frames take_messages) = replicate take_messages (out (record { 0 = sink }))
steps_of w (Collect sink take_notices) =
    map (λ n. notice (record { 0 = sink }) (notice_for n)) (take take_notices (notices_of (slice_get w.mixers sink)))
steps_of w (Stop sink) = []

-- after each event the connections that have ended are swept away
abbrev pub all_steps : World → Event → List (Step Stream)
all_steps w e = steps_of w e ++ sweep ∷ []

-- ---- the links

abbrev pub with_bytes : ConnId → List ℕ → Link → Link
with_bytes conn bytes link = cond (is_of conn link) (record link { received = link.received ++ bytes }) link

abbrev pub links_after : List Link → Event → List Link
links_after links (Connect conn) = links ++ record { conn = conn; received = [] } ∷ []
links_after links (Bytes conn bytes) = map (with_bytes conn bytes) links
links_after links (Close conn) = filter (λ link. not (is_of conn link)) links
links_after links (Cut conn) = links
links_after links (Turn sink frames take_messages) = links
links_after links (Collect sink take_notices) = links
links_after links (Stop sink) = links

-- ---- the mixers

-- the first messages that wait for a sink, which a turn of it takes
abbrev pub messages_taken : World → ℕ → ℕ → List (Message Stream)
messages_taken w sink n = map (message_of (λ p. p)) (take n (waiting_for w.core (record { 0 = sink })))

-- whether a turn stops the sink: its device will fail, or it has stopped before
abbrev pub is_to_stop : Mixer → Bool
is_to_stop m = m.sink.stopped || m.failing

abbrev pub mixer_stopped : Mixer → List (Message Stream) → Mixer
mixer_stopped m messages = record { sink = stopped_turn m.sink messages; notices = m.notices ++ stopped_notices m.sink messages; failing = false }

abbrev pub mixer_played : Mixer → ℕ → List (Message Stream) → Mixer
mixer_played m frames messages = record { sink = turned samples m.sink frames messages; notices = m.notices ++ turn_notices samples m.sink frames messages; failing = false }

abbrev pub mixer_turned : Mixer → ℕ → List (Message Stream) → Mixer
mixer_turned m frames messages = cond (is_to_stop m) (mixer_stopped m messages) (mixer_played m frames messages)

abbrev pub mixer_collected : Mixer → ℕ → Mixer
mixer_collected m n = record m { notices = drop n m.notices }

-- the sink's device will fail at the next turn, unless the sink is stopped
abbrev pub set_to_fail : Mixer → Mixer
set_to_fail m = cond m.sink.stopped m (record m { failing = true })

abbrev pub change_at : List Mixer → ℕ → Option Mixer → (Mixer → Mixer) → List Mixer
change_at mixers sink None change = mixers
change_at mixers sink (Some m) change = set mixers sink (change m)

abbrev pub mixers_after : World → Event → List Mixer
mixers_after w (Connect conn) = w.mixers
mixers_after w (Bytes conn bytes) = w.mixers
mixers_after w (Close conn) = w.mixers
mixers_after w (Cut conn) = w.mixers
mixers_after w (Turn sink frames n) = change_at w.mixers sink (slice_get w.mixers sink) (λ m. mixer_turned m frames (messages_taken w sink n))
mixers_after w (Collect sink n) = change_at w.mixers sink (slice_get w.mixers sink) (λ m. mixer_collected m n)
mixers_after w (Stop sink) = change_at w.mixers sink.0 (slice_get w.mixers sink.0) set_to_fail

-- the world with a sink's device set to fail, and nothing else changed
abbrev pub world_stopping : World → ℕ → World
world_stopping w sink = record w { mixers = change_at w.mixers sink (slice_get w.mixers sink) set_to_fail }

-- ---- the event

-- the world after an event
abbrev pub world_after : World → Event → World
world_after w e = record {
  core = stepped_by Stream.spec w.core (all_steps w e);
  links = links_after w.links e;
  mixers = mixers_after w e;
}

abbrev pub effects_after : World → Event → List Effect
effects_after w e = effects_by Stream.spec w.core (all_steps w e)

-- the frames of the buffer that the device consumes in a turn: none where it fails
abbrev pub played_of : Option Mixer → ℕ → List (List ℕ)
played_of None frames = []
played_of (Some m) frames = cond (is_to_stop m) [] (played_by m.sink frames)

abbrev pub frames_played : World → Event → List (List ℕ)
frames_played w (Connect conn) = []
frames_played w (Bytes conn bytes) = []
frames_played w (Close conn) = []
frames_played w (Cut conn) = []
frames_played w (Turn sink frames n) = played_of (slice_get w.mixers sink) frames
frames_played w (Collect sink n) = []
frames_played w (Stop sink) = []

-- whether a turn is the one that stops the sink: its device fails, and it hasn't stopped before
abbrev pub is_stopping : Mixer → Bool
is_stopping m = not m.sink.stopped && m.failing

-- the filled count after a turn of a sink that the turn stops, if it does
abbrev pub stopped_of : Option Mixer → List (Message Stream) → Option ℕ
stopped_of None messages = None
stopped_of (Some m) messages = cond (is_stopping m) (Some (mixer_stopped m messages).sink.filled) None

-- the filled count of the sink that an event stops, if it stops one
abbrev pub stopped_by : World → Event → Option ℕ
stopped_by w (Connect conn) = None
stopped_by w (Bytes conn bytes) = None
stopped_by w (Close conn) = None
stopped_by w (Cut conn) = None
stopped_by w (Turn sink frames n) = stopped_of (slice_get w.mixers sink) (messages_taken w sink n)
stopped_by w (Collect sink n) = None
stopped_by w (Stop sink) = None
