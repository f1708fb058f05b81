-- New buffer attributes: SET_PLAYBACK_STREAM_BUFFER_ATTR (PulseAudio: `command_set_stream_buffer_attr` of pulsecore/protocol-native.c).
use Rattle.std.specs.Prelude.{ℕ, List, [], ◌∷◌, Option, Ok}
use Rattle.px_types.specs.declared.error_code.ErrorCode.TheVariants.{NoEntity}
use Rattle.px_model.specs.declared.data.Attr.{Attr}
use Rattle.px_flat.specs.FlatVolume.{FlatGroup}
use Rattle.px_msg.specs.declared.message.Msg.{Msg}
use Rattle.px_msg.specs.declared.message.Msg.TheVariants.{Attr as NewAttr}
use Rattle.px_msg.specs.Repair.{repaired, bytes_of}
use Rattle.px_reply.specs.Message.{attributes_reply}
use Rattle.px_outcome.specs.declared.change.Change.TheVariants.{Posted}
use Rattle.px_outcome.specs.declared.input.Input.{Input}
use Rattle.px_outcome.specs.Outcome.{OutcomeParts, replied}
use Rattle.px_outcome.specs.Handled.{Handled, ◌>>=◌, present}
use Rattle.px_ctl_play.specs.Time.{microseconds}

-- these attributes are posted to the input's sink, of `depth` and `rate`, and the reply gives them in bytes, with the sink's latency
abbrev pub attributed : {P : Type 0} → ℕ → ℕ → Input → Attr → ℕ → OutcomeParts (Msg P) FlatGroup
attributed depth rate x attr tag =
    replied (attributes_reply tag (bytes_of x.spec attr) (microseconds rate depth)) (Posted x.index (NewAttr x.index attr) ∷ [])

-- the connection's stream, where it exists, gets the attributes asked for, repaired
abbrev pub attributes : {P : Type 0} → Option Input → ℕ → ℕ → List ℕ → ℕ → Handled (OutcomeParts (Msg P) FlatGroup)
attributes stream depth rate asked tag = do
  x ← present stream NoEntity
  Ok (attributed depth rate x (repaired (Input.spec x) asked) tag)
