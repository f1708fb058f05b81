-- A world with monitors: its clients can record what a sink plays. The commands on record streams are handled before the world, which gets every other frame as
-- an event of its own.
use Rattle.std.specs.Prelude.{◌≡◌, ℕ, ◌+◌, Bool, false, not, cond, nat_eq, length, List, [], ◌∷◌, ◌++◌, filter, find, replicate, Option, None, Some, unwrap_or}
use Rattle.std.specs.List.{concat}
use Rattle.px_types.specs.declared.ids.ConnId.{ConnId}
use Rattle.px_frame.specs.declared.frame.Frame.{Frame}
use Rattle.px_frame.specs.declared.frame.Body.{Body}
use Rattle.px_frame.specs.declared.frame.Body.TheVariants.{Control, Write as write}
use Rattle.px_frame.specs.Frame.{offset_at}
use Rattle.px_frame.specs.Spelling.{spelling_of}
use Rattle.px_header.specs.declared.header.Header.{Header}
use Rattle.px_session.specs.declared.event.Event.{Event}
use Rattle.px_session.specs.declared.event.Event.TheVariants.{Connect, Bytes, Close, Cut, Turn, Collect, Stop}
use Rattle.px_state.specs.declared.effect.Effect.{Effect}
use Rattle.px_state.specs.declared.effect.Effect.TheVariants.{Sent, Closed}
use Rattle.px_state.specs.Effect.{sending, fault_code, fault_place, offset_behind}
use Rattle.px_core.specs.Connecting.{version_of}
use Rattle.px_types.specs.declared.limits.TheConstants.{LEAST_PROTOCOL_VERSION}
use Rattle.px_world.specs.declared.fault.WorldFault.{WorldFault}
use Rattle.px_world.specs.World.{World, new_world}
use Rattle.px_world.specs.Admission.{refusal_of}
use Rattle.px_world.specs.Event.{frames_played}
use Rattle.px_world.specs.Output.{world_by}
use Rattle.px_sieve.specs.declared.segment.Segment.{Segment}
use Rattle.px_sieve.specs.declared.piece.Piece.{Piece}
use Rattle.px_sieve.specs.declared.piece.Piece.TheVariants.{Pass, Broken, Own, Write}
use Rattle.px_sieve.specs.Piece.{sorted}
use Rattle.px_sieve.specs.Sieve.{Heard, Sieve, new_sieve, heard_of, pass, after_next, seen, forget}
use Rattle.px_sieve.specs.declared.shift.Shift.{Shift}
use Rattle.px_sieve.specs.declared.shift.Shift.TheVariants.{Unshifted, Moved, Faulted}
use Rattle.px_sieve.specs.Scene.{Item, Inner, Reply, inner, shown_by}
use Rattle.px_monitor.specs.declared.skips.Skip.{Skip}
use Rattle.px_monitor.specs.declared.answer.Answer.{Answer}
use Rattle.px_monitor.specs.declared.answer.Answer.TheVariants.{Packet, Fault}
use Rattle.px_world.specs.Running.{StandsFor as WorldStands}
use Rattle.px_sieve.specs.Standing.{StandsFor as SieveStands}
use Rattle.px_monitor.specs.declared.parts.Parts.{Parts}
use Rattle.px_monitor.specs.Command.{CREATE, DELETE}
use Rattle.px_monitor.specs.Create.{Answered, answer}
use Rattle.px_monitor.specs.Fragments.{sent_of}
use Rattle.px_monitor.specs.Records.{Records, no_records, without_conn}

-- ---- the bytes of a connection that the world doesn't get: their number, which stays at 2 ^ 64 - 1 once it reaches that

abbrev pub skips_for : ConnId → Skip → Bool
skips_for conn skip = nat_eq (Skip.conn skip).0 conn.0

abbrev pub bytes_in : Option Skip → ℕ
bytes_in None = 0
bytes_in (Some skip) = skip.bytes

abbrev pub skipped_of : ConnId → List Skip → ℕ
skipped_of conn skips = bytes_in (find (skips_for conn) skips)

abbrev pub other_skips : ConnId → List Skip → List Skip
other_skips conn skips = filter (λ skip. not (skips_for conn skip)) skips

abbrev pub with_skip : ConnId → ℕ → List Skip → List Skip
with_skip conn more skips = other_skips conn skips ++ record { conn = conn; bytes = offset_at (skipped_of conn skips + more) } ∷ []

-- ---- the state

pub record Monitor : Type 0 where
  pub world : World
  -- no segment waits between two events
  pub sieve : Sieve
  pub skips : List Skip
  pub records : Records

abbrev pub new_monitor : Header → Monitor
new_monitor header = record {
  world = new_world header;
  sieve = new_sieve (CREATE ∷ DELETE ∷ []);
  skips = [];
  records = no_records header.sinks;
}

-- an event is refused exactly where its world refuses it
abbrev pub monitor_refusal : Monitor → Event → Option WorldFault
monitor_refusal m e = refusal_of m.world e

-- ---- what items change

-- a connection that the server ends loses its record streams
abbrev pub records_seen : List Effect → Records → Records
records_seen [] records = records
records_seen (Sent conn packet ∷ effects) records = records_seen effects records
records_seen (Closed conn reason fault at ∷ effects) records = records_seen effects (without_conn conn records)

abbrev pub seeing : List Effect → Monitor → Monitor
seeing effects m = record m { sieve = seen m.sieve effects; records = records_seen effects m.records }

-- the world after items
abbrev pub running_on : Monitor → List Item → Monitor
running_on m items = record m { world = world_by m.world (inner items) }

abbrev pub after_items : Monitor → List Item → Monitor
after_items m items = seeing (shown_by m.world items) (running_on m items)

-- ---- a piece of a connection's bytes

-- the version by which its commands are read
abbrev pub version_on : Monitor → ConnId → ℕ
version_on m conn = unwrap_or (version_of m.world.core.connections conn) LEAST_PROTOCOL_VERSION

-- the packet of a control frame
abbrev pub packet_of : Body → List ℕ
packet_of (Control packet) = packet
packet_of (write stream offset seek bytes) = []

-- the answer to a command, and the table of record streams after it
abbrev pub answered_by : Monitor → ConnId → List ℕ → Answered
answered_by m conn packet = answer (version_on m conn) conn packet m.records

abbrev pub answered : Monitor → ConnId → Frame → Answered
answered m conn frame = answered_by m conn (packet_of frame.body)

-- bytes for the world: where some were left out before, it counts from a later one
abbrev pub shift_by : ConnId → ℕ → Shift
shift_by conn skipped = cond (nat_eq skipped 0) Unshifted (Moved conn skipped)

abbrev pub passed_on : Monitor → ConnId → List ℕ → Item
passed_on m conn bytes = Inner (Bytes conn bytes) (shift_by conn (skipped_of conn m.skips))

-- twenty bytes of a frame of length 0, which ends a connection
abbrev pub zero_length : List ℕ
zero_length = replicate 20 0

-- a fault in a command's fields ends the connection, as it does where the world handles the command
abbrev pub answer_items : ConnId → ℕ → Answer → List Item
answer_items conn at (Packet packet) = Reply (sending conn packet) ∷ []
answer_items conn at (Fault fault) = Inner (Bytes conn zero_length) (Faulted conn (fault_code fault) (offset_behind at (fault_place fault))) ∷ []

abbrev pub piece_items : Monitor → ConnId → Piece → List Item
piece_items m conn (Pass frame) = passed_on m conn (spelling_of frame.body) ∷ []
piece_items m conn (Broken bytes) = passed_on m conn bytes ∷ []
piece_items m conn (Write frame) = passed_on m conn (spelling_of frame.body) ∷ []
piece_items m conn (Own frame) = answer_items conn frame.at (answered m conn frame).1

-- an own command changes the table of record streams, and the world doesn't get its bytes
abbrev pub handled_in : Monitor → ConnId → Piece → Monitor
handled_in m conn (Pass frame) = m
handled_in m conn (Broken bytes) = m
handled_in m conn (Write frame) = m
handled_in m conn (Own frame) = record m { skips = with_skip conn (20 + length (packet_of frame.body)) m.skips; records = (answered m conn frame).0 }

abbrev pub after_piece : Monitor → ConnId → Piece → Monitor
after_piece m conn piece = after_items (handled_in m conn piece) (piece_items m conn piece)

-- ---- all pieces of a connection's bytes

abbrev pub is_in : Option Heard → Bool
is_in None = false
is_in (Some h) = h.let_in

abbrev pub waiting_in : Option Heard → List Segment
waiting_in None = []
waiting_in (Some h) = h.waiting

abbrev pub piece_for : Monitor → ConnId → Segment → Piece
piece_for m conn segment = sorted m.sieve.own (is_in (heard_of m.sieve.heard conn)) segment

-- a segment was handed out
abbrev pub handed_out : Monitor → ConnId → Monitor
handed_out m conn = record m { sieve = after_next m.sieve conn }

abbrev pub after_segment : Monitor → ConnId → Segment → Monitor
after_segment m conn segment = after_piece (handed_out m conn) conn (piece_for m conn segment)

abbrev pub segment_items : Monitor → ConnId → Segment → List Item
segment_items m conn segment = piece_items (handed_out m conn) conn (piece_for m conn segment)

abbrev pub segments_items : Monitor → ConnId → List Segment → List Item
segments_items m conn [] = []
segments_items m conn (segment ∷ segments) = segment_items m conn segment ++ segments_items (after_segment m conn segment) conn segments

abbrev pub after_segments : Monitor → ConnId → List Segment → Monitor
after_segments m conn [] = m
after_segments m conn (segment ∷ segments) = after_segments (after_segment m conn segment) conn segments

-- bytes arrive: then these segments wait
abbrev pub hearing : Monitor → ConnId → List ℕ → Monitor
hearing m conn bytes = record m { sieve = pass m.sieve conn bytes }

abbrev pub to_hand_out : Monitor → ConnId → List Segment
to_hand_out m conn = waiting_in (heard_of m.sieve.heard conn)

-- ---- an event

abbrev pub alone : Event → List Item
alone e = Inner e Unshifted ∷ []

-- what becomes of an event
abbrev pub items : Monitor → Event → List Item
items m (Connect conn) = alone (Connect conn)
items m (Bytes conn bytes) = segments_items (hearing m conn bytes) conn (to_hand_out (hearing m conn bytes) conn)
items m (Close conn) = alone (Close conn)
items m (Cut conn) = alone (Cut conn)
items m (Turn sink frames n) = alone (Turn sink frames n)
items m (Collect sink n) = alone (Collect sink n)
items m (Stop sink) = alone (Stop sink)

-- a connection's number is free again
abbrev pub forgotten : ConnId → Monitor → Monitor
forgotten conn m = record m { sieve = forget m.sieve conn; skips = other_skips conn m.skips; records = without_conn conn m.records }

abbrev pub monitor_after : Monitor → Event → Monitor
monitor_after m (Connect conn) = after_items m (alone (Connect conn))
monitor_after m (Bytes conn bytes) = after_segments (hearing m conn bytes) conn (to_hand_out (hearing m conn bytes) conn)
monitor_after m (Close conn) = forgotten conn (after_items m (alone (Close conn)))
monitor_after m (Cut conn) = after_items m (alone (Cut conn))
monitor_after m (Turn sink frames n) = after_items m (alone (Turn sink frames n))
monitor_after m (Collect sink n) = after_items m (alone (Collect sink n))
monitor_after m (Stop sink) = after_items m (alone (Stop sink))

abbrev pub monitor_effects : Monitor → Event → List Effect
monitor_effects m e = shown_by m.world (items m e)

-- ---- what record streams are sent

-- after a turn each record stream of its sink, in order of creation, gets the bytes that it has played
abbrev pub sent_after : Monitor → Event → List Effect
sent_after m (Connect conn) = []
sent_after m (Bytes conn bytes) = []
sent_after m (Close conn) = []
sent_after m (Cut conn) = []
sent_after m (Turn sink frames n) = sent_of (record { 0 = sink }) (concat (frames_played m.world (Turn sink frames n))) (monitor_after m (Turn sink frames n)).records.streams
sent_after m (Collect sink n) = []
sent_after m (Stop sink) = []

-- ---- the code's state

-- it stands for this state
pub record StandsForMonitor (parts : Parts) (m : Monitor) : Type 0 where
  pub world : WorldStands parts.world m.world
  pub sieve : SieveStands parts.sieve m.sieve
  pub skips : parts.skips.items ≡ m.skips
  pub records : parts.records ≡ m.records
