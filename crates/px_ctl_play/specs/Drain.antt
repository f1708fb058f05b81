-- Playing a stream to its end: DRAIN_PLAYBACK_STREAM, and the sink's notice (PulseAudio: `command_drain_playback_stream` and
-- PLAYBACK_STREAM_MESSAGE_DRAIN_ACK of pulsecore/protocol-native.c; which notices fit is own).
use Rattle.std.specs.Prelude.{ℕ, cond, List, Option, None, Some, Ok}
use Rattle.px_types.specs.declared.error_code.ErrorCode.TheVariants.{NoEntity}
use Rattle.px_flat.specs.FlatVolume.{FlatGroup}
use Rattle.px_msg.specs.declared.message.Msg.{Msg}
use Rattle.px_msg.specs.declared.message.Msg.TheVariants.{Drain}
use Rattle.px_reply.specs.Front.{reply_to}
use Rattle.px_outcome.specs.declared.input.Connection.{Connection}
use Rattle.px_outcome.specs.declared.input.Input.{Input}
use Rattle.px_outcome.specs.declared.waiting.Awaited.TheVariants.{Drained}
use Rattle.px_outcome.specs.declared.waiting.Waiting.{Waiting}
use Rattle.px_outcome.specs.Input.{goes_on}
use Rattle.px_outcome.specs.Outcome.{OutcomeParts, idle}
use Rattle.px_outcome.specs.Handled.{Handled, ◌>>=◌, present}
use Rattle.px_outcome.specs.Waiting.{drain_under}
use Rattle.px_ctl_play.specs.Answer.{asked, answered}

-- the sink of the connection's stream, where it exists, is asked for a notice when all of it was played
abbrev pub drain : {P : Type 0} → Option Input → ℕ → Handled (OutcomeParts (Msg P) FlatGroup)
drain stream tag = do
  x ← present stream NoEntity
  Ok (asked x (Drain (Input.index x) tag) Drained tag)

-- a reply without fields to the request, where it waits
abbrev pub drain_answered : {P : Type 0} → Option Connection → Option Waiting → OutcomeParts (Msg P) FlatGroup
drain_answered owner None = idle
drain_answered owner (Some w) = answered owner w (reply_to w.tag)

-- `input` has drained: the first waiting DRAIN of it under `tag` is answered, where the input exists and is live
abbrev pub drained : {P : Type 0} → Option Input → Option Connection → List Waiting → ℕ → OutcomeParts (Msg P) FlatGroup
drained None owner waiting tag = idle
drained (Some x) owner waiting tag = cond (goes_on x) (drain_answered owner (drain_under waiting x.index tag)) idle
