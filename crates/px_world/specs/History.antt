-- The history of one sink in a run: its turns, with the frames consumed and the messages taken.
use Rattle.std.specs.Prelude.{◌≡◌, ℕ, ◌<◌, ◌≤◌, cond, nat_eq, List, [], ◌∷◌, ◌++◌, length, Option, None, Some, option_map}
use Rattle.std.specs.List.{slice_get}
use Rattle.px_header.specs.declared.header.Header.{Header}
use Rattle.px_header.specs.declared.header.SinkSpec.{SinkSpec}
use Rattle.px_session.specs.declared.event.Event.{Event}
use Rattle.px_session.specs.declared.event.Event.TheVariants.{Connect, Bytes, Close, Cut, Turn, Collect, Stop}
use Rattle.px_msg.specs.View.{sample_spec}
use Rattle.px_model.specs.Frame.{Frame}
use Rattle.px_model.specs.Message.{Message}
use Rattle.px_model.specs.Stream.{Stream}
use Rattle.px_model.specs.Sink.{Sink, empty_sink}
use Rattle.px_model.specs.Turn.{frame_mixed}
use Rattle.px_model.specs.Deciding.{Entry, turn, stop, IsLastReaching}
use Rattle.px_stream.specs.Samples.{samples}
use Rattle.px_world.specs.World.{World, Mixer, new_world}
use Rattle.px_world.specs.Event.{world_after, frames_played, messages_taken, is_to_stop}

abbrev pub entry_of : Option Mixer → ℕ → List (Message Stream) → List Entry
entry_of None frames messages = []
entry_of (Some m) frames messages = cond (is_to_stop m) (stop messages) (turn frames messages) ∷ []

-- what an event adds to the history of a sink
abbrev pub entries_of : World → Event → ℕ → List Entry
entries_of w (Connect conn) k = []
entries_of w (Bytes conn bytes) k = []
entries_of w (Close conn) k = []
entries_of w (Cut conn) k = []
entries_of w (Turn sink frames n) k = cond (nat_eq sink k) (entry_of (slice_get w.mixers sink) frames (messages_taken w sink n)) []
entries_of w (Collect sink n) k = []
entries_of w (Stop sink) k = []

-- the frames that an event plays on a sink
abbrev pub played_on : World → Event → ℕ → List Frame
played_on w (Connect conn) k = []
played_on w (Bytes conn bytes) k = []
played_on w (Close conn) k = []
played_on w (Cut conn) k = []
played_on w (Turn sink frames n) k = cond (nat_eq sink k) (frames_played w (Turn sink frames n)) []
played_on w (Collect sink n) k = []
played_on w (Stop sink) k = []

-- the history of a sink, and all frames that it plays, over the events of a run
abbrev pub history_by : World → List Event → ℕ → List Entry
history_by w [] k = []
history_by w (e ∷ events) k = entries_of w e k ++ history_by (world_after w e) events k

abbrev pub played_by_run : World → List Event → ℕ → List Frame
played_by_run w [] k = []
played_by_run w (e ∷ events) k = played_on w e k ++ played_by_run (world_after w e) events k

-- the sink at an index before its first turn
abbrev pub begun : SinkSpec → Sink
begun s = empty_sink (sample_spec s.spec) s.guard s.depth

-- the sink at an index, if it is there
abbrev pub sink_at : World → ℕ → Option Sink
sink_at w k = option_map (λ m. Mixer.sink m) (slice_get w.mixers k)

-- Frame `f` of those that a sink has played, from its start over its history, is what its deciding turn made of it: the mix of the streams after that
-- turn
pub record IsDecidedIn (start : Sink) (history : List Entry) (played : List Frame) (f : ℕ) : Type 0 where
  -- the sink after that turn: of all turns of the history the last whose horizon is at most `f`
  pub by : Sink
  pub last : IsLastReaching samples start history f by
  -- at its end `f` wasn't played yet
  pub early : by.consumed ≤ f
  pub frame : slice_get played f ≡ Some (frame_mixed samples f by)

-- so is frame `f` that sink `k` plays in a run
abbrev pub IsDecided : Header → List Event → ℕ → SinkSpec → ℕ → Type 0
IsDecided header events k s f = IsDecidedIn (begun s) (history_by (new_world header) events k) (played_by_run (new_world header) events k) f

-- every frame that a sink plays in a run is what its deciding turn made of it
abbrev pub AreDecided : Header → List Event → Type 0
AreDecided header events =
    (k : ℕ) (s : SinkSpec) → slice_get header.sinks k ≡ Some s
    → (f : ℕ) → f < length (played_by_run (new_world header) events k) → IsDecided header events k s f
