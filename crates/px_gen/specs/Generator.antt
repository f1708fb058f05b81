-- The session generated from a number and a count: four clients that play, and then `count` steps, each of one client's frame and a turn of its sink.
-- Own.
use Rattle.std.specs.Prelude.{ℕ, zero, suc, ◌+◌, ◌*◌, ◌/◌, ◌%◌, List, [], ◌∷◌, ◌++◌, length, codes, ◌==◌, if◌then◌else◌}
use Rattle.std.specs.List.{flat_map}
use Rattle.px_types.specs.declared.ids.ConnId.{ConnId}
use Rattle.px_sample.specs.declared.format.Format.{Format}
use Rattle.px_sample.specs.declared.format.Format.TheVariants.{S16Le, S32Le}
use Rattle.px_header.specs.declared.header.SinkSpec.{SinkSpec}
use Rattle.px_header.specs.declared.header.Header.{Header}
use Rattle.px_session.specs.declared.event.Event.{Event}
use Rattle.px_session.specs.declared.event.Event.TheVariants.{Connect, Bytes, Turn}
use Rattle.px_session.specs.declared.form.Form.{Form}
use Rattle.px_session.specs.declared.form.Form.TheVariants.{One}
use Rattle.px_session.specs.Spelling.{spelled}
use Rattle.px_gen.specs.Numbers.{next_state, next_number, state_after, samples}
use Rattle.px_gen.specs.Client.{cookie, sink_of, map_of, auth_packet, create_packet, volume_packet, cork_packet, control_frame, data_frame}

-- the form of the session
abbrev pub form : Form
form = One

-- ---- before the steps

-- a sink at 48,000 frames a second
abbrev pub sink_at : List ℕ → Format → List ℕ → ℕ → ℕ → SinkSpec
sink_at name format map guard depth = record {
  name = name;
  spec = record { format = format; channels = length map; rate = 48000 };
  map = map;
  guard = guard;
  depth = depth;
}

abbrev pub sink_a : SinkSpec
sink_a = sink_at (codes "a") S16Le (1 ∷ 2 ∷ []) 64 512

abbrev pub sink_b : SinkSpec
sink_b = sink_at (codes "b") S32Le (0 ∷ []) 0 256

abbrev pub header : Header
header = record { cookie = cookie; sinks = sink_a ∷ sink_b ∷ [] }

abbrev pub conn : ℕ → ConnId
conn n = record { 0 = n }

-- a client connects, authenticates, and creates a stream
abbrev pub client_events : ℕ → List Event
client_events n = Connect (conn n) ∷ Bytes (conn n) (control_frame auth_packet) ∷ Bytes (conn n) (control_frame (create_packet n)) ∷ []

-- four clients, and then each sink takes all messages that wait: two of each stream
abbrev pub opening : List Event
opening = flat_map client_events (1 ∷ 2 ∷ 3 ∷ 4 ∷ []) ++ (Turn 0 0 6 ∷ Turn 1 0 2 ∷ [])

-- ---- a step

-- the connection that a number chooses, and which of eight actions its client does
abbrev pub conn_in : ℕ → ℕ
conn_in number = 1 + number % 4

abbrev pub choice_in : ℕ → ℕ
choice_in number = number / 4 % 8

-- the frames of a write, and of a turn
abbrev pub frames : ℕ
frames = 64

abbrev pub samples_of : ℕ → ℕ
samples_of n = frames * length (map_of n)

-- the frame that the client sends, by the state after the step's first number: a volume, a cork, or samples
unfoldable pub said : ℕ → ℕ → ℕ → List ℕ
said n choice x =
    if choice == 0 then control_frame (volume_packet n (next_number x % 65537))
    else if choice == 1 then control_frame (cork_packet (next_number x % 4 == 0))
    else data_frame (samples (samples_of n) x)

-- the state after these numbers
unfoldable pub state_said : ℕ → ℕ → ℕ → ℕ
state_said n choice x =
    if choice == 0 then next_state x
    else if choice == 1 then next_state x
    else state_after (samples_of n) x

-- a step by its first number, and the state after it
abbrev pub events_by : ℕ → ℕ → List Event
events_by number x = Bytes (conn (conn_in number)) (said (conn_in number) (choice_in number) x) ∷ Turn (sink_of (conn_in number)) frames 1 ∷ []

unfoldable pub step_events : ℕ → List Event
step_events x = events_by (next_number x) (next_state x)

unfoldable pub step_state : ℕ → ℕ
step_state x = state_said (conn_in (next_number x)) (choice_in (next_number x)) (next_state x)

-- the events of this many steps
abbrev pub steps : ℕ → ℕ → List Event
steps zero x = []
steps (suc n) x = step_events x ++ steps n (step_state x)

-- ---- the session

unfoldable pub generated : ℕ → ℕ → List ℕ
generated number count = spelled form header (opening ++ steps count number)
