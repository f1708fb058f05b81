-- CREATE_PLAYBACK_STREAM (PulseAudio: `command_create_playback_stream` of pulsecore/protocol-native.c; the order of refusals is own).
use Rattle.std.specs.Prelude.{ℕ, ◌+◌, List, [], ◌∷◌, ◌++◌, Option, Ok}
use Rattle.px_types.specs.declared.error_code.ErrorCode.TheVariants.{Invalid, NoEntity, TooLarge, NotSupported}
use Rattle.px_cmd.specs.declared.command.CreateFields.{CreateFields}
use Rattle.px_flat.specs.FlatVolume.{FlatGroup}
use Rattle.px_msg.specs.Repair.{bytes_of}
use Rattle.px_msg.specs.declared.message.Msg.{Msg}
use Rattle.px_msg.specs.declared.message.Msg.TheVariants.{New}
use Rattle.px_reply.specs.declared.played.Created.{Created}
use Rattle.px_reply.specs.Message.{created_reply}
use Rattle.px_outcome.specs.declared.change.Change.{Change}
use Rattle.px_outcome.specs.declared.change.Change.TheVariants.{Made, Described}
use Rattle.px_outcome.specs.declared.input.Connection.{Connection}
use Rattle.px_outcome.specs.declared.input.Input.{Input}
use Rattle.px_outcome.specs.declared.input.Standing.TheVariants.{Settled}
use Rattle.px_outcome.specs.declared.input.Way.TheVariants.{Coming}
use Rattle.px_outcome.specs.declared.target.Named.{Named}
use Rattle.px_outcome.specs.declared.target.Target.{Target}
use Rattle.px_outcome.specs.Input.{settled_on}
use Rattle.px_outcome.specs.Outcome.{OutcomeParts, replied}
use Rattle.px_outcome.specs.Handled.{Handled, ◌>>=◌, check, present}
use Rattle.px_outcome.specs.Target.{is_clear, target_of, raw_of}
use Rattle.px_ctl_play.specs.Asked.{spec_on, attr_on, positions_on, is_lawful, is_supported, feed_on, has_room}
use Rattle.px_ctl_play.specs.Factors.{own_factors, regrouped}
use Rattle.px_ctl_play.specs.Joining.{joined}
use Rattle.px_ctl_play.specs.Time.{microseconds}

-- ---- the new input

abbrev pub input_made : ℕ → Connection → Target → CreateFields → Input
input_made made me sink a = record {
  index = record { 0 = made };
  conn = me.conn;
  client = me.client;
  stream = me.streams;
  sink = sink.index;
  spec = spec_on sink a;
  map = positions_on sink a;
  no_move = a.no_move;
  no_remap = a.no_remap;
  no_remix = a.no_remix;
  attr = attr_on sink a;
  way = Coming;
  standing = Settled;
}

-- the message that brings `x` to its sink; `feed` is the stream channel that feeds each of the sink's, `group` the sink's group
abbrev pub new_of : {P : Type 0} → CreateFields → FlatGroup → List ℕ → Input → Msg P
new_of a group feed x = New (record {
  input = x.index;
  spec = x.spec;
  feed = feed;
  factors = own_factors group x.index;
  attr = x.attr;
  corked = a.corked;
})

-- ---- the reply to the client

-- the longest time that a frame waits before the sink plays it, in microseconds
abbrev pub latency_of : Target → ℕ
latency_of sink = microseconds sink.spec.rate sink.depth

abbrev pub created_of : Target → CreateFields → Input → Created
created_of sink a x = record {
  stream = x.stream;
  input = x.index.0;
  attr = bytes_of x.spec x.attr;
  spec = raw_of x.spec;
  map = positions_on sink a;
  sink = x.sink.0;
  name = sink.name;
  usec = latency_of sink;
}

-- ---- the command

-- the input is added, its sink gets its stream, and then this group, with the factors of all inputs on it; and the list that the client gave is set
abbrev pub changes_of : {P : Type 0} → List Input → ℕ → Connection → CreateFields → FlatGroup → List ℕ → Input → List (Change (Msg P) FlatGroup)
changes_of inputs made me a group feed x =
    Made x (new_of a group feed x) (me.streams + 1) (made + 1) ∷ regrouped x.sink group (settled_on inputs x.sink ++ x ∷ []) ∷ Described x.index a.list ∷ []

-- the first two of them
abbrev pub begun : {P : Type 0} → List Input → ℕ → Connection → CreateFields → FlatGroup → List ℕ → Input → List (Change (Msg P) FlatGroup)
begun inputs made me a group feed x =
    Made x (new_of a group feed x) (me.streams + 1) (made + 1) ∷ regrouped x.sink group (settled_on inputs x.sink ++ x ∷ []) ∷ []

abbrev pub created : {P : Type 0} → List Input → ℕ → Connection → ℕ → Target → FlatGroup → CreateFields → List ℕ → Input → OutcomeParts (Msg P) FlatGroup
created inputs made me tag sink group a feed x =
    replied (created_reply tag (created_of sink a x)) (changes_of inputs made me a (joined group sink a feed x) feed x)

-- creates the stream on this sink, which has this group, where the sink can play it and there is room for it
abbrev pub create_on : {P : Type 0} → List Input → ℕ → Connection → ℕ → Target → FlatGroup → CreateFields → Handled (OutcomeParts (Msg P) FlatGroup)
create_on inputs made me tag sink group a = do
  supported ← check (is_supported sink a) NotSupported
  feed ← present (feed_on sink a) NotSupported
  room ← check (has_room inputs made me sink.index) TooLarge
  Ok (created inputs made me tag sink group a feed (input_made made me sink a))

-- a connection asks for a stream, where `inputs` are all inputs, `made` were ever made, and the named sink has this group
abbrev pub create : {P : Type 0} → List Input → ℕ → Connection → ℕ → Named → Option FlatGroup → CreateFields → Handled (OutcomeParts (Msg P) FlatGroup)
create inputs made me tag named group a = do
  lawful ← check (is_lawful a) Invalid
  clear ← check (is_clear named) Invalid
  sink ← present (target_of named) NoEntity
  group ← present group NoEntity
  create_on inputs made me tag sink group a
