-- The history of a sink, and the turn that decides a frame. Own: PulseAudio has no such notion, though its rewind is meant to give the same frames.
use Rattle.std.specs.Prelude.{ℕ, ◌-◌, ◌<◌, ◌≤◌, ◌≡◌, false, List, [], ◌∷◌, ◌++◌, Option, Some, None, nat_le, if◌then◌else◌, ⊤, option_map}
use Rattle.std.specs.Option.{option_or}
use Rattle.px_model.specs.Frame.{Frame}
use Rattle.px_model.specs.Stream.{Stream}
use Rattle.px_model.specs.Message.{Message}
use Rattle.px_model.specs.Notice.{Notice}
use Rattle.px_model.specs.Mix.{Samples}
use Rattle.px_model.specs.Sink.{Sink}
use Rattle.px_model.specs.Turn.{AreFor, frame_mixed, turned, stopped_turn, turn_notices, stopped_notices, played_by}

-- a turn with the number of frames that its sync consumed, or one whose sync failed (stop), each with its messages
pub data Entry : Type 0 where
  turn : ℕ → List (Message Stream) → Entry
  stop : List (Message Stream) → Entry

abbrev pub sink_after : Samples → Sink → Entry → Sink
sink_after samples sink (turn n messages) = turned samples sink n messages
sink_after samples sink (stop messages) = stopped_turn sink messages

abbrev pub notices_of : Samples → Sink → Entry → List (Notice Stream)
notices_of samples sink (turn n messages) = turn_notices samples sink n messages
notices_of samples sink (stop messages) = stopped_notices sink messages

abbrev pub played_of : Sink → Entry → List Frame
played_of sink (turn n messages) = played_by sink n
played_of sink (stop messages) = []

-- the replay of a history: the sink after it, its notices in order, and the frames played
abbrev pub replay : Samples → Sink → List Entry → Sink
replay samples sink [] = sink
replay samples sink (e ∷ history) = replay samples (sink_after samples sink e) history

abbrev pub replay_notices : Samples → Sink → List Entry → List (Notice Stream)
replay_notices samples sink [] = []
replay_notices samples sink (e ∷ history) = notices_of samples sink e ++ replay_notices samples (sink_after samples sink e) history

abbrev pub replay_played : Samples → Sink → List Entry → List Frame
replay_played samples sink [] = []
replay_played samples sink (e ∷ history) = played_of sink e ++ replay_played samples (sink_after samples sink e) history

-- a turn consumes frames that are there, on a sink that isn't stopped
abbrev pub CanBe : Sink → Entry → Type 0
CanBe sink (turn n messages) = (n ≤ sink.filled - sink.consumed) × (sink.stopped ≡ false)
CanBe sink (stop messages) = ⊤

abbrev pub IsHistory : Samples → Sink → List Entry → Type 0
IsHistory samples sink [] = ⊤
IsHistory samples sink (e ∷ history) = CanBe sink e × IsHistory samples (sink_after samples sink e) history

-- each turn's messages are those that the sink may be given
abbrev pub messages_of : Entry → List (Message Stream)
messages_of (turn n messages) = messages
messages_of (stop messages) = messages

abbrev pub IsOrderlyHistory : Samples → Sink → List Entry → Type 0
IsOrderlyHistory samples sink [] = ⊤
IsOrderlyHistory samples sink (e ∷ history) = AreFor sink (messages_of e) × IsOrderlyHistory samples (sink_after samples sink e) history

-- the sink as the deciding turn of frame f left it: the last turn of the history whose horizon is at most f
abbrev pub deciding : Samples → Sink → List Entry → ℕ → Option Sink
deciding samples sink [] f = None
deciding samples sink (e ∷ history) f =
    option_or (deciding samples (sink_after samples sink e) history f)
    (if nat_le (sink_after samples sink e).horizon f then Some (sink_after samples sink e) else None)

-- frame f as its deciding turn mixes it
abbrev pub decided : Samples → Sink → List Entry → ℕ → Option Frame
decided samples sink history f = option_map (frame_mixed samples f) (deciding samples sink history f)

-- every turn of the history leaves a horizon past frame f
abbrev pub ArePast : Samples → Sink → List Entry → ℕ → Type 0
ArePast samples sink [] f = ⊤
ArePast samples sink (e ∷ history) f = (f < (sink_after samples sink e).horizon) × ArePast samples (sink_after samples sink e) history f

-- a turn of the history left the sink like this, with a horizon of at most f, and every later one left a horizon past f
pub record IsLastReaching (samples : Samples) (start : Sink) (history : List Entry) (f : ℕ) (sink : Sink) : Type 0 where
  pub earlier : List Entry
  pub entry : Entry
  pub later : List Entry
  pub whole : history ≡ earlier ++ (entry ∷ later)
  pub left : sink ≡ sink_after samples (replay samples start earlier) entry
  pub reached : sink.horizon ≤ f
  pub passed : ArePast samples sink later f
