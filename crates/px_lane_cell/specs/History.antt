-- A sink's mixer as the replay of its history, with what went through its mailboxes.
use Rattle.std.specs.Prelude.{◌≡◌, ℕ, ◌-◌, List, [], ◌∷◌, ◌++◌, length, take, flat_map}
use Rattle.std.specs.List.{concat}
use Rattle.px_ends.specs.Visible.{WhereVisible}
use Rattle.px_ends.specs.Device.{DeviceState}
use Rattle.px_model.specs.Frame.{Frame}
use Rattle.px_model.specs.Stream.{Stream}
use Rattle.px_model.specs.Message.{Message}
use Rattle.px_model.specs.Notice.{Notice}
use Rattle.px_model.specs.Sink.{Sink, empty_sink}
use Rattle.px_model.specs.Turn.{turned}
use Rattle.px_model.specs.Deciding.{Entry, turn, stop, messages_of, replay, replay_notices, replay_played, IsHistory}
use Rattle.px_stream.specs.Samples.{samples}

-- the same sink before its first turn
abbrev pub unturned : Sink → Sink
unturned sink = empty_sink sink.spec sink.guard sink.depth

-- the frames that waited when a history's first sync failed: its device may have played a prefix of them
abbrev pub left_at_stop : Sink → List Entry → List Frame
left_at_stop sink [] = []
left_at_stop sink (turn n messages ∷ history) = left_at_stop (turned samples sink n messages) history
left_at_stop sink (stop messages ∷ history) = sink.buffer

-- bytes that were played: all of the first, and then a prefix of the others
abbrev pub ArePlayed : List ℕ → List ℕ → List ℕ → Type 0
ArePlayed all others bytes = bytes ≡ all ++ take (length bytes - length all) others

-- a sink over a device, after a history: the messages taken are those of its turns followed by those still held, and the notices of its turns are
-- those posted followed by those left
pub record IsAfter (device : DeviceState) (sink : Sink) (history : List Entry) (taken held : List (Message Stream)) (posted left : List (Notice Stream)) : Type 0 where
  pub turns : IsHistory samples (unturned sink) history
  pub replayed : sink ≡ replay samples (unturned sink) history
  pub messages : taken ≡ flat_map messages_of history ++ held
  pub notices : replay_notices samples (unturned sink) history ≡ posted ++ left
  pub played : WhereVisible device.played (ArePlayed (concat (replay_played samples (unturned sink) history)) (concat (left_at_stop (unturned sink) history)))
