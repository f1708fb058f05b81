-- The end of a stream by another client's request: KILL_SINK_INPUT (PulseAudio: `command_kill` and `sink_input_kill_cb` of
-- pulsecore/protocol-native.c; that waiting requests get an error is own).
use Rattle.std.specs.Prelude.{ℕ, List, [], ◌∷◌, ◌++◌, Option, None, Some, Ok}
use Rattle.px_types.specs.declared.error_code.ErrorCode.TheVariants.{NoEntity}
use Rattle.px_tag.specs.Item.{number}
use Rattle.px_reply.specs.Front.{reply_to, message}
use Rattle.px_outcome.specs.declared.change.Change.TheVariants.{Leaves}
use Rattle.px_outcome.specs.declared.input.Connection.{Connection}
use Rattle.px_outcome.specs.declared.input.Input.{Input}
use Rattle.px_outcome.specs.declared.sending.Sending.{Sending}
use Rattle.px_outcome.specs.declared.waiting.Waiting.{Waiting}
use Rattle.px_outcome.specs.Outcome.{OutcomeParts}
use Rattle.px_outcome.specs.Handled.{Handled, ◌>>=◌, present}
use Rattle.px_ctl_play.specs.Answer.{sent_to}
use Rattle.px_ctl_play.specs.Delete.{errors_for}

-- where its connection is live, an error for each waiting request of the input
abbrev pub errors_to : Option Connection → Input → List Waiting → List Sending
errors_to None x waiting = []
errors_to (Some c) x waiting = errors_for x waiting

-- PLAYBACK_STREAM_KILLED
abbrev pub killed_message : Input → List ℕ
killed_message x = message 64 ++ number x.stream

-- an input ends: the client that made the request has a reply, and the input's own client the errors and then the message
abbrev pub killed : {M G : Type 0} → Input → Option Connection → List Waiting → ℕ → OutcomeParts M G
killed x owner waiting tag = record {
  reply = Some (reply_to tag);
  errors = errors_to owner x waiting;
  notified = sent_to owner (killed_message x);
  changes = Leaves x.index ∷ [];
}

-- KILL_SINK_INPUT of `input`, whose connection is `owner` where it is live
abbrev pub kill_input : {M G : Type 0} → Option Input → Option Connection → List Waiting → ℕ → Handled (OutcomeParts M G)
kill_input input owner waiting tag = do
  x ← present input NoEntity
  Ok (killed x owner waiting tag)
