-- The track of an input: the stream indices that it settles (gives as the horizon moves forward) over a history of one sink. Own.
use Rattle.std.specs.Prelude.{ℕ, ◌+◌, ◌-◌, ◌≡◌, ◌⊎◌, ℤ, ◌≤ℤ◌, Bool, not, ◌&&◌, IsTrue, List, [], ◌∷◌, ◌++◌, map, flat_map, Option, Some, None, nat_lt, ◌==◌, if◌then◌else◌, ⊤}
use Rattle.std.specs.List.{range_with_len, AllByRecursion}
use Rattle.px_model.specs.Index.{onward}
use Rattle.px_model.specs.Queue.{left_of, is_short}
use Rattle.px_model.specs.Stream.{Stream}
use Rattle.px_model.specs.Going.{given_of}
use Rattle.px_model.specs.Message.{Message}
use Rattle.px_model.specs.Notice.{Notice}
use Rattle.px_model.specs.Mix.{Samples}
use Rattle.px_model.specs.Sink.{Sink, Input, stream_at}
use Rattle.px_model.specs.Turn.{next_horizon, inputs_with, message_notices}
use Rattle.px_model.specs.Deciding.{Entry, turn, stop, sink_after, messages_of}

-- one move forward: `count` frames from an index on, and whether the read index ran on past them, without prebuffering
pub record Stretch : Type 0 where
  pub from : ℤ
  pub count : ℕ
  pub ran_on : Bool

abbrev pub stretch_of : Stream → ℕ → Stretch
stretch_of s k = record {
  from = s.queue.read;
  count = given_of s k;
  ran_on = not s.corked && not (is_short s.queue) && s.queue.prebuf == 0 && nat_lt (left_of s.queue) k;
}

-- how far an entry moves the horizon
abbrev pub forward_by : Sink → Entry → ℕ
forward_by sink (turn n messages) = next_horizon sink n - sink.horizon
forward_by sink (stop messages) = next_horizon sink 0 - sink.horizon

abbrev pub stretches_from : Option Stream → ℕ → List Stretch
stretches_from None k = []
stretches_from (Some s) k = stretch_of s k ∷ []

-- the stretches of an input, turn by turn
abbrev pub track_of : Samples → Sink → List Entry → ℕ → List Stretch
track_of samples sink [] i = []
track_of samples sink (e ∷ history) i =
    stretches_from (stream_at i sink.inputs) (forward_by sink e) ++ track_of samples (sink_after samples sink e) history i

-- the indices of a stretch, and of a track
abbrev pub indices_of : Stretch → List ℤ
indices_of stretch = map (onward stretch.from) (range_with_len 0 stretch.count)

abbrev pub indices_of_all : List Stretch → List ℤ
indices_of_all track = flat_map indices_of track

-- each index is above the one before it, and the first at or past a bound
abbrev pub RiseFrom : ℤ → List ℤ → Type 0
RiseFrom bound [] = ⊤
RiseFrom bound (i ∷ indices) = (bound ≤ℤ i) × RiseFrom (onward i 1) indices

abbrev pub Rise : List ℤ → Type 0
Rise [] = ⊤
Rise (i ∷ indices) = RiseFrom (onward i 1) indices

-- a stretch begins where the one before it ended, or past that where that one ran on
pub record Follows (before next : Stretch) : Type 0 where
  pub joined : (next.from ≡ onward before.from before.count) ⊎ IsTrue before.ran_on
  pub rising : onward before.from before.count ≤ℤ next.from

abbrev pub IsJoined : List Stretch → Type 0
IsJoined [] = ⊤
IsJoined (x ∷ []) = ⊤
IsJoined (x ∷ y ∷ track) = Follows x y × IsJoined (y ∷ track)

-- 1 where there is a stream
abbrev pub presence_of : Option Stream → ℕ
presence_of None = 0
presence_of (Some s) = 1

-- how often a message opens an input, and how often a list of them and a history do
abbrev pub opens : ℕ → Message Stream → ℕ
opens i (Message.new n) = if n.input == i then 1 else 0
opens i (Message.attach j parcel feed factors) = if j == i then 1 else 0
opens i (Message.detach j) = 0
opens i (Message.write w) = 0
opens i (Message.cork j on) = 0
opens i (Message.flush j) = 0
opens i (Message.trigger j) = 0
opens i (Message.prebuf j) = 0
opens i (Message.drain j tag) = 0
opens i (Message.attr j attr) = 0
opens i (Message.factors each) = 0
opens i (Message.query j tag) = 0

abbrev pub all_opens : ℕ → List (Message Stream) → ℕ
all_opens i [] = 0
all_opens i (m ∷ messages) = opens i m + all_opens i messages

abbrev pub history_opens : ℕ → List Entry → ℕ
history_opens i [] = 0
history_opens i (e ∷ history) = all_opens i (messages_of e) + history_opens i history

-- ---- the read index of an input

-- a stream, if there is one, has this read index
abbrev pub StandsAt : ℤ → Option Stream → Type 0
StandsAt read None = ⊤
StandsAt read (Some s) = s.queue.read ≡ read

-- a notice that hands over the input's parcel hands it over at this read index
abbrev pub HandsOverAt : ℕ → ℤ → Notice Stream → Type 0
HandsOverAt i read (Notice.request j frames) = ⊤
HandsOverAt i read (Notice.overflow j) = ⊤
HandsOverAt i read (Notice.underflow j) = ⊤
HandsOverAt i read (Notice.started j) = ⊤
HandsOverAt i read (Notice.drained j tag) = ⊤
HandsOverAt i read (Notice.detached j parcel) = j ≡ i → parcel.queue.read ≡ read
HandsOverAt i read (Notice.latency j tag answer) = ⊤

-- a notice that hands over a parcel hands over the whole stream of its input, as it is among these inputs
abbrev pub HandsOver : List Input → Notice Stream → Type 0
HandsOver inputs (Notice.request j frames) = ⊤
HandsOver inputs (Notice.overflow j) = ⊤
HandsOver inputs (Notice.underflow j) = ⊤
HandsOver inputs (Notice.started j) = ⊤
HandsOver inputs (Notice.drained j tag) = ⊤
HandsOver inputs (Notice.detached j parcel) = stream_at j inputs ≡ Some parcel
HandsOver inputs (Notice.latency j tag answer) = ⊤

-- each message's notices do so, for the inputs as the messages before it left them
abbrev pub AllHandOver : ℕ → ℕ → List (Message Stream) → List Input → Type 0
AllHandOver mixed buffered [] inputs = ⊤
AllHandOver mixed buffered (m ∷ messages) inputs =
    AllByRecursion (HandsOver inputs) (message_notices mixed buffered m inputs) × AllHandOver mixed buffered messages (inputs_with mixed m inputs)
