-- The data of a record stream: what its sink played, in data frames of the stream's fragment size.
use Rattle.std.specs.Prelude.{ℕ, zero, suc, nat_eq, pos, List, [], ◌∷◌, take, drop, length, filter, map}
use Rattle.std.specs.List.{flat_map}
use Rattle.px_types.specs.declared.ids.SinkId.{SinkId}
use Rattle.px_frame.specs.declared.frame.Body.TheVariants.{Write}
use Rattle.px_frame.specs.Spelling.{spelling_of}
use Rattle.px_state.specs.declared.effect.Effect.{Effect}
use Rattle.px_state.specs.declared.effect.Effect.TheVariants.{Sent}
use Rattle.px_monitor.specs.declared.recording.Recording.{Recording}

-- at most `most` fragments of `size` bytes, the last one shorter
abbrev pub fragments_in : ℕ → ℕ → List ℕ → List (List ℕ)
fragments_in zero size bytes = []
fragments_in (suc most) size [] = []
fragments_in (suc most) size (b ∷ bytes) = take size (b ∷ bytes) ∷ fragments_in most size (drop size (b ∷ bytes))

-- each has at least one byte, so the number of bytes bounds their number
unfoldable pub fragments : ℕ → List ℕ → List (List ℕ)
fragments size bytes = fragments_in (length bytes) size bytes

-- a fragment goes to the stream's client as a data frame with offset 0 and flags 0
abbrev pub data_frame : Recording → List ℕ → Effect
data_frame r part = Sent (Recording.conn r) (spelling_of (Write r.stream (pos 0) 0 part))

-- the data frames of a record stream for bytes that its sink played
abbrev pub data_of : List ℕ → Recording → List Effect
data_of bytes r = map (data_frame r) (fragments r.fragsize bytes)

-- the record streams of a sink, in order of creation
abbrev pub streams_on : SinkId → List Recording → List Recording
streams_on sink streams = filter (λ r. nat_eq (Recording.sink r).0 sink.0) streams

-- the data frames of all record streams of a sink
abbrev pub sent_of : SinkId → List ℕ → List Recording → List Effect
sent_of sink bytes streams = flat_map (data_of bytes) (streams_on sink streams)
