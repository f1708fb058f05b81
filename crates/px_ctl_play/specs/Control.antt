-- Commands that are posted to a stream's sink and answered at once (PulseAudio: `command_cork_playback_stream` and
-- `command_trigger_or_flush_or_prebuf_playback_stream` of pulsecore/protocol-native.c).
use Rattle.std.specs.Prelude.{ℕ, Bool, [], ◌∷◌, Option, Ok}
use Rattle.px_types.specs.declared.error_code.ErrorCode.TheVariants.{NoEntity}
use Rattle.px_flat.specs.FlatVolume.{FlatGroup}
use Rattle.px_msg.specs.declared.message.Msg.{Msg}
use Rattle.px_msg.specs.declared.message.Msg.TheVariants.{Cork, Flush, Trigger, Prebuf}
use Rattle.px_reply.specs.Front.{reply_to}
use Rattle.px_outcome.specs.declared.change.Change.TheVariants.{Posted}
use Rattle.px_outcome.specs.declared.input.Input.{Input}
use Rattle.px_outcome.specs.Outcome.{OutcomeParts, replied}
use Rattle.px_outcome.specs.Handled.{Handled, ◌>>=◌, present}

-- the message is posted to an input's sink, and the client has a reply without fields
abbrev pub post_and_reply : {P : Type 0} → Input → Msg P → ℕ → OutcomeParts (Msg P) FlatGroup
post_and_reply x message tag = replied (reply_to tag) (Posted x.index message ∷ [])

-- each is of a stream of the connection, where it exists

abbrev pub cork : {P : Type 0} → Option Input → Bool → ℕ → Handled (OutcomeParts (Msg P) FlatGroup)
cork stream on tag = do
  x ← present stream NoEntity
  Ok (post_and_reply x (Cork (Input.index x) on) tag)

abbrev pub flush : {P : Type 0} → Option Input → ℕ → Handled (OutcomeParts (Msg P) FlatGroup)
flush stream tag = do
  x ← present stream NoEntity
  Ok (post_and_reply x (Flush (Input.index x)) tag)

abbrev pub trigger : {P : Type 0} → Option Input → ℕ → Handled (OutcomeParts (Msg P) FlatGroup)
trigger stream tag = do
  x ← present stream NoEntity
  Ok (post_and_reply x (Trigger (Input.index x)) tag)

abbrev pub prebuf : {P : Type 0} → Option Input → ℕ → Handled (OutcomeParts (Msg P) FlatGroup)
prebuf stream tag = do
  x ← present stream NoEntity
  Ok (post_and_reply x (Prebuf (Input.index x)) tag)
