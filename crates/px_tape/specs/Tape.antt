-- The events of a tape.
use Rattle.std.specs.Prelude.{◌≡◌, ℕ, ◌+◌, ◌<◌, ◌≤◌, ◌^◌, Bool, true, false, cond, nat_eq, List, [], ◌∷◌, ◌++◌, length, Option, None, Some, ⊤}
use Rattle.std.specs.List.{flat_map, AllByRecursion}
use Rattle.px_types.specs.declared.ids.ConnId.{ConnId}
use Rattle.px_header.specs.declared.header.Header.{Header}
use Rattle.px_session.specs.declared.event.Event.{Event}
use Rattle.px_session.specs.declared.event.Event.TheVariants.{Connect, Bytes, Close, Cut, Turn, Collect, Stop}
use Rattle.px_session.specs.declared.form.Form.{Form}
use Rattle.px_session.specs.declared.form.Form.TheVariants.{Two}
use Rattle.px_session.specs.EventRules.{IsEvent}
use Rattle.px_session.specs.Spelling.{header, event}
use Rattle.px_tape.specs.declared.turns.Turn.{Turn as Made}
use Rattle.px_tape.specs.declared.turns.NextTurn.{NextTurn}
use Rattle.px_tape.specs.declared.tape.Mark.{Mark}
use Rattle.px_tape.specs.declared.tape.Mark.TheVariants as mark

-- the form of a tape's session
abbrev pub form : Form
form = Two

-- a turn counts as one, and no other event counts
abbrev pub turn_in : Event → ℕ
turn_in (Connect conn) = 0
turn_in (Bytes conn bytes) = 0
turn_in (Close conn) = 0
turn_in (Cut conn) = 0
turn_in (Turn sink frames messages) = 1
turn_in (Collect sink notices) = 0
turn_in (Stop sink) = 0

-- the number of turns among these events
abbrev pub turns_in : List Event → ℕ
turns_in [] = 0
turns_in (e ∷ events) = turn_in e + turns_in events

-- an event that is neither a turn nor a stop of a sink
abbrev pub IsOther : Event → Type 0
IsOther (Connect conn) = ⊤
IsOther (Bytes conn bytes) = ⊤
IsOther (Close conn) = ⊤
IsOther (Cut conn) = ⊤
IsOther (Turn sink frames messages) = ⊥
IsOther (Collect sink notices) = ⊤
IsOther (Stop sink) = ⊥

abbrev pub AreOthers : List Event → Type 0
AreOthers events = AllByRecursion IsOther events

-- an event with bytes of a client, at most 65,536
abbrev pub IsPiece : ConnId → Event → Type 0
IsPiece client (Connect conn) = ⊥
IsPiece client (Bytes conn bytes) = (conn ≡ client) × (length bytes ≤ 65536)
IsPiece client (Close conn) = ⊥
IsPiece client (Cut conn) = ⊥
IsPiece client (Turn sink frames messages) = ⊥
IsPiece client (Collect sink notices) = ⊥
IsPiece client (Stop sink) = ⊥

abbrev pub ArePieces : ConnId → List Event → Type 0
ArePieces client events = AllByRecursion (IsPiece client) events

-- the bytes received in an event
abbrev pub bytes_in : Event → List ℕ
bytes_in (Connect conn) = []
bytes_in (Bytes conn bytes) = bytes
bytes_in (Close conn) = []
bytes_in (Cut conn) = []
bytes_in (Turn sink frames messages) = []
bytes_in (Collect sink notices) = []
bytes_in (Stop sink) = []

-- the bytes received in all events, in their order
abbrev pub all_bytes : List Event → List ℕ
all_bytes events = flat_map bytes_in events

-- a session without its end byte
abbrev pub begun : Header → List Event → List ℕ
begun h events = header form h ++ flat_map (event form) events

-- ---- the turns of the sinks

-- an event as a list, where it is a turn or a stop of the sink with index `at`
abbrev pub of_sink : ℕ → Event → List Event
of_sink at (Connect conn) = []
of_sink at (Bytes conn bytes) = []
of_sink at (Close conn) = []
of_sink at (Cut conn) = []
of_sink at (Turn sink frames messages) = cond (nat_eq sink at) (Turn sink frames messages ∷ []) []
of_sink at (Collect sink notices) = []
of_sink at (Stop sink) = cond (nat_eq sink.0 at) (Stop sink ∷ []) []

-- the turns and the stops of the sink with index `at`, in their order
abbrev pub at_sink : ℕ → List Event → List Event
at_sink at events = flat_map (of_sink at) events

-- a stop, where a sink's device fails in a turn and has not failed before
abbrev pub stop_in : ℕ → Bool → Option ℕ → List Event
stop_in sink failed (Some frames) = []
stop_in sink true None = []
stop_in sink false None = Stop (record { 0 = sink }) ∷ []

-- the frames of a turn: none where the device has failed
abbrev pub frames_in : Option ℕ → ℕ
frames_in None = 0
frames_in (Some frames) = frames

-- whether a sink's device has failed, after a turn
abbrev pub failed_after : Bool → Option ℕ → Bool
failed_after failed (Some frames) = failed
failed_after failed None = true

-- the events of the turns of a sink, whose device has failed before them or not: each is a turn, and a stop stands before the first in which the
-- device fails
abbrev pub events_of : ℕ → Bool → List Made → List Event
events_of sink failed [] = []
events_of sink failed (t ∷ turns) =
    stop_in sink failed t.consumed ++ (Turn sink (frames_in t.consumed) t.take ∷ events_of sink (failed_after failed t.consumed) turns)

-- the turns that a sink made, whether its device has failed before them, and the number that it has room for
pub record Turns : Type 0 where
  pub sink : ℕ
  pub turns : List Made
  pub failed : Bool
  pub capacity : ℕ

abbrev pub events_in : Turns → List Event
events_in t = events_of t.sink t.failed t.turns

-- the events of the sink with index `at`, of the turns of all sinks
abbrev pub events_at : ℕ → List Turns → List Event
events_at at [] = []
events_at at (t ∷ sinks) = cond (nat_eq t.sink at) (events_in t) [] ++ events_at at sinks

-- the events of the next turn of a sink, where it has one more
abbrev pub events_next : Option NextTurn → List Event
events_next None = []
events_next (Some n) = cond n.stops (Stop (record { 0 = n.sink }) ∷ []) [] ++ Turn n.sink n.frames n.take ∷ []

-- the number of turns of all these sinks
abbrev pub total : List Turns → ℕ
total [] = 0
total (t ∷ sinks) = length t.turns + total sinks

abbrev pub count_of : {A : Type 0} → Option A → ℕ
count_of None = 0
count_of (Some a) = 1

-- ---- the tape

-- a mark on a tape is an event of a session that is neither a turn nor a stop, or stands for a turn of a sink
abbrev pub IsMark : Mark → Type 0
IsMark (mark.Made e) = IsEvent form e × IsOther e
IsMark (mark.TurnOf sink) = sink < 2 ^ 8

-- the marks so far, and the number that the tape holds without taking memory
pub record Taped : Type 0 where
  pub marks : List Mark
  pub capacity : ℕ
