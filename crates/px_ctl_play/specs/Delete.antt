-- The end of a stream: DELETE_PLAYBACK_STREAM (PulseAudio: `command_delete_stream` of pulsecore/protocol-native.c; that waiting requests get an error
-- is own).
use Rattle.std.specs.Prelude.{ℕ, List, [], ◌∷◌, map, Option, Some, Ok}
use Rattle.px_types.specs.declared.error_code.ErrorCode.TheVariants.{NoEntity}
use Rattle.px_types.specs.ErrorCode.{code_of}
use Rattle.px_flat.specs.FlatVolume.{FlatGroup}
use Rattle.px_msg.specs.declared.message.Msg.{Msg}
use Rattle.px_reply.specs.Front.{reply_to, refusal}
use Rattle.px_outcome.specs.declared.change.Change.TheVariants.{Leaves}
use Rattle.px_outcome.specs.declared.input.Input.{Input}
use Rattle.px_outcome.specs.declared.sending.Sending.{Sending}
use Rattle.px_outcome.specs.declared.waiting.Waiting.{Waiting}
use Rattle.px_outcome.specs.Outcome.{OutcomeParts}
use Rattle.px_outcome.specs.Handled.{Handled, ◌>>=◌, present}
use Rattle.px_outcome.specs.Waiting.{waiting_of}

-- the error for a request about an ended input
abbrev pub error_for : Input → Waiting → Sending
error_for x w = record { conn = x.conn; packet = refusal w.tag (code_of NoEntity) }

-- those of all waiting requests of it, in the order of the requests
abbrev pub errors_for : Input → List Waiting → List Sending
errors_for x waiting = map (error_for x) (waiting_of waiting x.index)

-- an input ends: the client has its reply, followed by these errors and these messages
abbrev pub ended : {M G : Type 0} → Input → List Sending → List Sending → ℕ → OutcomeParts M G
ended x errors notified tag = record { reply = Some (reply_to tag); errors = errors; notified = notified; changes = Leaves x.index ∷ [] }

-- an input ends: the client has its reply, and then an error for each waiting request
abbrev pub deleted : {P : Type 0} → Input → List Waiting → ℕ → OutcomeParts (Msg P) FlatGroup
deleted x waiting tag = record { reply = Some (reply_to tag); errors = errors_for x waiting; notified = []; changes = Leaves x.index ∷ [] }

-- the connection's stream ends, where it exists
abbrev pub delete : {P : Type 0} → Option Input → List Waiting → ℕ → Handled (OutcomeParts (Msg P) FlatGroup)
delete stream waiting tag = do
  x ← present stream NoEntity
  Ok (deleted x waiting tag)
