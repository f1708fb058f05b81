-- A world with a sample cache: of the events of a session, those of its clients that the world gets, with replies to the commands on samples among their effects, and the
-- events of the server's own connection, on which samples are played.
use Rattle.std.specs.Prelude.{◌≡◌, ℕ, zero, suc, ◌+◌, Bool, false, cond, nat_eq, List, [], ◌∷◌, ◌++◌, length, replicate, Option, None, Some}
use Rattle.px_types.specs.declared.ids.ConnId.{ConnId}
use Rattle.px_tag.specs.declared.fault.TagFault.{TagFault}
use Rattle.px_frame.specs.declared.frame.Body.{Body}
use Rattle.px_frame.specs.declared.frame.Body.TheVariants.{Control, Write as write}
use Rattle.px_frame.specs.Spelling.{spelling_of}
use Rattle.px_header.specs.declared.header.Header.{Header}
use Rattle.px_session.specs.declared.event.Event.{Event}
use Rattle.px_session.specs.declared.event.Event.TheVariants.{Connect, Bytes, Close, Cut, Turn, Collect, Stop}
use Rattle.px_state.specs.declared.effect.Effect.{Effect}
use Rattle.px_state.specs.declared.effect.Effect.TheVariants.{Sent, Closed}
use Rattle.px_state.specs.Effect.{sending, fault_code, fault_place, offset_behind}
use Rattle.px_world.specs.declared.fault.WorldFault.{WorldFault}
use Rattle.px_world.specs.declared.fault.WorldFault.TheVariants.{Live, NotLive}
use Rattle.px_world.specs.World.{World, new_world}
use Rattle.px_world.specs.Admission.{refusal_of}
use Rattle.px_world.specs.Event.{effects_after}
use Rattle.px_world.specs.Output.{world_by}
use Rattle.px_world.specs.Running.{StandsFor as WorldStands}
use Rattle.px_sieve.specs.declared.segment.Segment.{Segment}
use Rattle.px_sieve.specs.declared.piece.Piece.{Piece}
use Rattle.px_sieve.specs.declared.piece.Piece.TheVariants.{Pass, Broken, Own, Write}
use Rattle.px_sieve.specs.declared.shift.Shift.{Shift}
use Rattle.px_sieve.specs.declared.shift.Shift.TheVariants.{Unshifted, Moved, Faulted, Hidden}
use Rattle.px_sieve.specs.Piece.{sorted}
use Rattle.px_sieve.specs.Sieve.{Heard, Sieve, new_sieve, heard_of, pass, after_next, seen, forget}
use Rattle.px_sieve.specs.Scene.{Item, Inner, Reply, inner, shown_by, shifted}
use Rattle.px_sieve.specs.Standing.{StandsFor as SieveStands}
use Rattle.px_scache.specs.declared.answer.Answer.{Answer}
use Rattle.px_scache.specs.declared.answer.Answer.TheVariants.{Packet, Fault, Begins}
use Rattle.px_scache.specs.declared.play.Play.{Play}
use Rattle.px_scache.specs.Answers.{Store, no_store, Done, answer, with_data, forgotten as store_forgotten}
use Rattle.px_scache.specs.Command.{CREATE_UPLOAD, DELETE_UPLOAD, FINISH_UPLOAD, PLAY, REMOVE}
use Rattle.px_scache.specs.Play.{create_frame, data_frame, drain_frame, delete_frame}
use Rattle.px_scache.specs.Uploads.{has_upload}
use Rattle.px_cache_world.specs.declared.answered.Created.{Created}
use Rattle.px_cache_world.specs.declared.answered.Created.TheVariants.{Made, Refused, Unanswered}
use Rattle.px_cache_world.specs.declared.parts.Parts.{Parts}
use Rattle.px_cache_world.specs.declared.skips.Skip.{Skip}
use Rattle.px_cache_world.specs.Own.{HIDDEN, is_hidden, auth_frame, name_frame}
use Rattle.px_cache_world.specs.Skips.{skipped_of, other_skips, with_skip}
use Rattle.px_cache_world.specs.Answered.{NO_STREAM, created_by, play_reply, tag_in}
use Rattle.px_cache_world.specs.Course.{Course, no_plays, under_way, with_play, course_seen, with_due, most_due}

-- ---- the state

pub record Sampler : Type 0 where
  pub world : World
  -- no segment waits between two events
  pub sieve : Sieve
  pub skips : List Skip
  pub store : Store
  -- nothing is due between two events
  pub course : Course

-- the events by which the server connects to itself
abbrev pub greeting : List ℕ → List Event
greeting cookie = Connect HIDDEN ∷ Bytes HIDDEN (auth_frame cookie) ∷ Bytes HIDDEN name_frame ∷ []

abbrev pub own_commands : List ℕ
own_commands = CREATE_UPLOAD ∷ DELETE_UPLOAD ∷ FINISH_UPLOAD ∷ PLAY ∷ REMOVE ∷ []

-- before the first event of the session
abbrev pub new_sampler : Header → Sampler
new_sampler header = record {
  world = world_by (new_world header) (greeting header.cookie);
  sieve = new_sieve own_commands;
  skips = [];
  store = no_store;
  course = no_plays;
}

-- ---- what is refused: what the world refuses, and all that would be of the server's own connection

abbrev pub unless_hidden : ConnId → WorldFault → Option WorldFault → Option WorldFault
unless_hidden conn fault refusal = cond (is_hidden conn) (Some fault) refusal

abbrev pub sampler_refusal : Sampler → Event → Option WorldFault
sampler_refusal s (Connect conn) = unless_hidden conn Live (refusal_of s.world (Connect conn))
sampler_refusal s (Bytes conn bytes) = unless_hidden conn NotLive (refusal_of s.world (Bytes conn bytes))
sampler_refusal s (Close conn) = unless_hidden conn NotLive (refusal_of s.world (Close conn))
sampler_refusal s (Cut conn) = unless_hidden conn NotLive (refusal_of s.world (Cut conn))
sampler_refusal s (Turn sink frames n) = refusal_of s.world (Turn sink frames n)
sampler_refusal s (Collect sink n) = refusal_of s.world (Collect sink n)
sampler_refusal s (Stop sink) = refusal_of s.world (Stop sink)

-- ---- what items change

-- a connection that the server ends loses its uploads
abbrev pub store_seen : List Effect → Store → Store
store_seen [] store = store
store_seen (Sent conn frame ∷ effects) store = store_seen effects store
store_seen (Closed conn reason fault at ∷ effects) store = store_seen effects (store_forgotten conn store)

abbrev pub seeing : List Effect → Sampler → Sampler
seeing effects s = record s { sieve = seen s.sieve effects; store = store_seen effects s.store; course = course_seen effects s.course }

-- the world after items
abbrev pub running_on : Sampler → List Item → Sampler
running_on s items = record s { world = world_by s.world (inner items) }

abbrev pub after_items : Sampler → List Item → Sampler
after_items s items = seeing (shown_by s.world items) (running_on s items)

-- a frame on the server's own connection
abbrev pub own : List ℕ → Item
own frame = Inner (Bytes HIDDEN frame) Unshifted

-- ---- streams that are due to be deleted

-- the first of them
abbrev pub delete_items_of : List ℕ → List Item
delete_items_of [] = []
delete_items_of (stream ∷ due) = own (delete_frame NO_STREAM stream) ∷ []

abbrev pub after_delete_of : List ℕ → Sampler → Sampler
after_delete_of [] s = s
after_delete_of (stream ∷ due) s = after_items (record s { course = with_due due s.course }) (own (delete_frame NO_STREAM stream) ∷ [])

abbrev pub delete_items : Sampler → List Item
delete_items s = delete_items_of s.course.due

abbrev pub after_delete : Sampler → Sampler
after_delete s = after_delete_of s.course.due s

-- at most this many of them
abbrev pub deletes_by : ℕ → Sampler → List Item
deletes_by zero s = []
deletes_by (suc most) s = delete_items s ++ deletes_by most (after_delete s)

abbrev pub deleted_by : ℕ → Sampler → Sampler
deleted_by zero s = s
deleted_by (suc most) s = deleted_by most (after_delete s)

-- all of them: each was a play under way, so their number bounds this
abbrev pub settle_items : Sampler → List Item
settle_items s = deletes_by (most_due s.course) s

abbrev pub settled : Sampler → Sampler
settled s = deleted_by (most_due s.course) s

-- ---- a piece of a connection's bytes

-- the packet of a control frame
abbrev pub packet_of : Body → List ℕ
packet_of (Control packet) = packet
packet_of (write stream offset seek bytes) = []

-- a data frame is an upload's
abbrev pub is_taken : Store → ConnId → Body → Bool
is_taken store conn (Control packet) = false
is_taken store conn (write stream offset seek bytes) = has_upload conn stream store.uploads

-- the answer to a command, and the uploads and samples after it
abbrev pub answered_by : Sampler → ConnId → List ℕ → Done
answered_by s conn packet = answer conn (under_way s.course) packet s.store

-- bytes for the world: where some were left out before, it counts from a later one
abbrev pub shift_by : ConnId → ℕ → Shift
shift_by conn skipped = cond (nat_eq skipped 0) Unshifted (Moved conn skipped)

abbrev pub passed_on : Sampler → ConnId → List ℕ → Item
passed_on s conn bytes = Inner (Bytes conn bytes) (shift_by conn (skipped_of conn s.skips))

-- twenty bytes of a frame of length 0, which ends a connection
abbrev pub zero_length : List ℕ
zero_length = replicate 20 0

-- the answer to the CREATE_PLAYBACK_STREAM of a play
abbrev pub created : World → Play → Created
created w p = created_by (effects_after w (Bytes HIDDEN (create_frame NO_STREAM p)))

-- the sample and a DRAIN, where there is a stream
abbrev pub filling : Play → Created → List Item
filling p (Made stream input) = own (data_frame stream p.sample) ∷ own (drain_frame stream stream) ∷ []
filling p (Refused code) = []
filling p Unanswered = []

-- a play that a client has asked for by a PLAY_SAMPLE with a tag
abbrev pub play_items : World → ConnId → ℕ → Play → List Item
play_items w conn tag p = own (create_frame NO_STREAM p) ∷ Reply (sending conn (play_reply tag (created w p))) ∷ filling p (created w p)

-- a fault in a command's fields ends the connection, as it does where the world handles the command
abbrev pub fault_items : ConnId → ℕ → TagFault → List Item
fault_items conn at fault = Inner (Bytes conn zero_length) (Faulted conn (fault_code fault) (offset_behind at (fault_place fault))) ∷ []

-- what becomes of the answer to a command with a tag, whose frame's payload begins at this offset
abbrev pub answer_items : World → ConnId → ℕ → ℕ → Answer → List Item
answer_items w conn at tag (Packet packet) = Reply (sending conn packet) ∷ []
answer_items w conn at tag (Fault fault) = fault_items conn at fault
answer_items w conn at tag (Begins p) = play_items w conn tag p

abbrev pub piece_items : Sampler → ConnId → Piece → List Item
piece_items s conn (Pass frame) = passed_on s conn (spelling_of frame.body) ∷ []
piece_items s conn (Broken bytes) = passed_on s conn bytes ∷ []
piece_items s conn (Write frame) = cond (is_taken s.store conn frame.body) [] (passed_on s conn (spelling_of frame.body) ∷ [])
piece_items s conn (Own frame) = answer_items s.world conn frame.at (tag_in (packet_of frame.body)) (answered_by s conn (packet_of frame.body)).1

abbrev pub course_after : World → Answer → Course → Course
course_after w (Packet packet) c = c
course_after w (Fault fault) c = c
course_after w (Begins p) c = with_play (created w p) c

-- an own command changes uploads and samples, or a play begins; an upload's data is added to it; and the world doesn't get these bytes
abbrev pub commanded : Sampler → ConnId → List ℕ → Sampler
commanded s conn packet = record s {
  skips = with_skip conn (20 + length packet) s.skips;
  store = (answered_by s conn packet).0;
  course = course_after s.world (answered_by s conn packet).1 s.course;
}

abbrev pub uploaded : Sampler → ConnId → Body → Sampler
uploaded s conn (Control packet) = s
uploaded s conn (write stream offset seek bytes) = record s {
  skips = with_skip conn (20 + length bytes) s.skips;
  store = with_data conn stream offset seek bytes s.store;
}

abbrev pub handled_in : Sampler → ConnId → Piece → Sampler
handled_in s conn (Pass frame) = s
handled_in s conn (Broken bytes) = s
handled_in s conn (Write frame) = cond (is_taken s.store conn frame.body) (uploaded s conn frame.body) s
handled_in s conn (Own frame) = commanded s conn (packet_of frame.body)

abbrev pub with_piece : Sampler → ConnId → Piece → Sampler
with_piece s conn piece = after_items (handled_in s conn piece) (piece_items s conn piece)

-- with the streams that are deleted after it
abbrev pub whole_items : Sampler → ConnId → Piece → List Item
whole_items s conn piece = piece_items s conn piece ++ settle_items (with_piece s conn piece)

abbrev pub after_whole : Sampler → ConnId → Piece → Sampler
after_whole s conn piece = settled (with_piece s conn piece)

-- ---- all pieces of a connection's bytes

abbrev pub is_in : Option Heard → Bool
is_in None = false
is_in (Some h) = h.let_in

abbrev pub waiting_in : Option Heard → List Segment
waiting_in None = []
waiting_in (Some h) = h.waiting

abbrev pub piece_for : Sampler → ConnId → Segment → Piece
piece_for s conn segment = sorted s.sieve.own (is_in (heard_of s.sieve.heard conn)) segment

-- a segment was handed out
abbrev pub handed_out : Sampler → ConnId → Sampler
handed_out s conn = record s { sieve = after_next s.sieve conn }

abbrev pub after_segment : Sampler → ConnId → Segment → Sampler
after_segment s conn segment = after_whole (handed_out s conn) conn (piece_for s conn segment)

abbrev pub segment_items : Sampler → ConnId → Segment → List Item
segment_items s conn segment = whole_items (handed_out s conn) conn (piece_for s conn segment)

abbrev pub segments_items : Sampler → ConnId → List Segment → List Item
segments_items s conn [] = []
segments_items s conn (segment ∷ segments) = segment_items s conn segment ++ segments_items (after_segment s conn segment) conn segments

abbrev pub after_segments : Sampler → ConnId → List Segment → Sampler
after_segments s conn [] = s
after_segments s conn (segment ∷ segments) = after_segments (after_segment s conn segment) conn segments

-- bytes arrive: then these segments wait
abbrev pub hearing : Sampler → ConnId → List ℕ → Sampler
hearing s conn bytes = record s { sieve = pass s.sieve conn bytes }

abbrev pub to_hand_out : Sampler → ConnId → List Segment
to_hand_out s conn = waiting_in (heard_of s.sieve.heard conn)

-- ---- an event

abbrev pub alone : Event → List Item
alone e = Inner e Unshifted ∷ []

-- an event that the world gets as it is
abbrev pub lone_items : Sampler → Event → List Item
lone_items s e = alone e ++ settle_items (after_items s (alone e))

abbrev pub after_lone : Sampler → Event → Sampler
after_lone s e = settled (after_items s (alone e))

-- what becomes of an event
abbrev pub items : Sampler → Event → List Item
items s (Connect conn) = lone_items s (Connect conn)
items s (Bytes conn bytes) = segments_items (hearing s conn bytes) conn (to_hand_out (hearing s conn bytes) conn)
items s (Close conn) = lone_items s (Close conn)
items s (Cut conn) = lone_items s (Cut conn)
items s (Turn sink frames n) = lone_items s (Turn sink frames n)
items s (Collect sink n) = lone_items s (Collect sink n)
items s (Stop sink) = lone_items s (Stop sink)

-- a connection's number is free again
abbrev pub forgotten : ConnId → Sampler → Sampler
forgotten conn s = record s { sieve = forget s.sieve conn; skips = other_skips conn s.skips; store = store_forgotten conn s.store }

abbrev pub sampler_after : Sampler → Event → Sampler
sampler_after s (Connect conn) = after_lone s (Connect conn)
sampler_after s (Bytes conn bytes) = after_segments (hearing s conn bytes) conn (to_hand_out (hearing s conn bytes) conn)
sampler_after s (Close conn) = forgotten conn (after_lone s (Close conn))
sampler_after s (Cut conn) = after_lone s (Cut conn)
sampler_after s (Turn sink frames n) = after_lone s (Turn sink frames n)
sampler_after s (Collect sink n) = after_lone s (Collect sink n)
sampler_after s (Stop sink) = after_lone s (Stop sink)

-- what is shown of effects: those of the server's own connection aren't
abbrev pub open_effects : List Effect → List Effect
open_effects effects = shifted (Hidden HIDDEN) effects

abbrev pub sampler_effects : Sampler → Event → List Effect
sampler_effects s e = open_effects (shown_by s.world (items s e))

-- ---- the code's state

-- it stands for this state
pub record StandsForSampler (parts : Parts) (s : Sampler) : Type 0 where
  pub world : WorldStands parts.world s.world
  pub sieve : SieveStands parts.sieve s.sieve
  pub skips : parts.skips.items ≡ s.skips
  pub store : parts.store ≡ s.store
  pub course : parts.course ≡ s.course
