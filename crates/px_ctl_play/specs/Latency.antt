-- A stream's indices and latency: GET_PLAYBACK_LATENCY, and the sink's notice (PulseAudio: `command_get_playback_latency` of
-- pulsecore/protocol-native.c; that the reply gives the client's own time twice, and which notices fit, is own).
use Rattle.std.specs.Prelude.{ℕ, ◌-◌, ◌*◌, ◌^◌, min, ℤ, pos, ◌*ℤ◌, cond, List, Option, None, Some, Ok}
use Rattle.std.specs.Int.{w64, saturate_signed}
use Rattle.px_types.specs.declared.error_code.ErrorCode.TheVariants.{NoEntity}
use Rattle.px_tag.specs.declared.raw.TimeVal.{TimeVal}
use Rattle.px_sample.specs.declared.spec.Spec.{Spec}
use Rattle.px_sample.specs.Format.{frame_size_of}
use Rattle.px_model.specs.declared.data.Run.{Run}
use Rattle.px_model.specs.declared.data.Run.TheVariants.{Quiet, Playing}
use Rattle.px_flat.specs.FlatVolume.{FlatGroup}
use Rattle.px_msg.specs.declared.message.Msg.{Msg}
use Rattle.px_msg.specs.declared.message.Msg.TheVariants.{Query}
use Rattle.px_reply.specs.declared.played.LatencyFields.{LatencyFields}
use Rattle.px_reply.specs.Message.{latency_reply}
use Rattle.px_outcome.specs.declared.input.Connection.{Connection}
use Rattle.px_outcome.specs.declared.input.Input.{Input}
use Rattle.px_outcome.specs.declared.waiting.Awaited.{Awaited}
use Rattle.px_outcome.specs.declared.waiting.Awaited.TheVariants.{Drained, Latency}
use Rattle.px_outcome.specs.declared.waiting.Waiting.{Waiting}
use Rattle.px_outcome.specs.Input.{goes_on}
use Rattle.px_outcome.specs.Outcome.{OutcomeParts, idle}
use Rattle.px_outcome.specs.Handled.{Handled, ◌>>=◌, present}
use Rattle.px_outcome.specs.Waiting.{question_under}
use Rattle.px_ctl_play.specs.declared.timing.Progress.{Progress}
use Rattle.px_ctl_play.specs.Answer.{asked, answered}
use Rattle.px_ctl_play.specs.Time.{microseconds}

-- the sink of the connection's stream, where it exists, is asked for its indices; the time that the client gives waits with the request
abbrev pub latency : {P : Type 0} → Option Input → TimeVal → ℕ → Handled (OutcomeParts (Msg P) FlatGroup)
latency stream time tag = do
  x ← present stream NoEntity
  Ok (asked x (Query (Input.index x) tag) (Latency time) tag)

-- ---- the reply

-- an index in bytes, and a count of frames in bytes, each saturated to its field
abbrev pub index_in_bytes : Spec → ℤ → ℤ
index_in_bytes spec index = saturate_signed w64 (index *ℤ pos (frame_size_of spec))

abbrev pub count_in_bytes : Spec → ℕ → ℕ
count_in_bytes spec frames = min (frames * frame_size_of spec) (2 ^ 64 - 1)

-- the frames that it has been silent for, and played for; one of them is 0
abbrev pub silent_for : Run → ℕ
silent_for (Quiet frames) = frames
silent_for (Playing frames) = 0

abbrev pub playing_for : Run → ℕ
playing_for (Quiet frames) = 0
playing_for (Playing frames) = frames

-- the time that the client gave; with a drain it gives none
abbrev pub time_given : Awaited → TimeVal
time_given Drained = record { seconds = 0; micros = 0 }
time_given (Latency time) = time

-- the fields of the reply to the client that gave `time`, for an input on a sink of `rate`
abbrev pub fields_of : ℕ → Input → Progress → TimeVal → LatencyFields
fields_of rate x progress time = record {
  usec = microseconds rate progress.buffered;
  playing = progress.playing;
  time = time;
  write = index_in_bytes x.spec progress.write;
  read = index_in_bytes x.spec progress.read;
  underrun = count_in_bytes x.spec (silent_for progress.run);
  played = count_in_bytes x.spec (playing_for progress.run);
}

-- ---- the sink's notice

-- a reply to the request, where it waits
abbrev pub latency_answered : {P : Type 0} → ℕ → Input → Option Connection → Option Waiting → Progress → OutcomeParts (Msg P) FlatGroup
latency_answered rate x owner None progress = idle
latency_answered rate x owner (Some w) progress = answered owner w (latency_reply w.tag (fields_of rate x progress (time_given w.awaited)))

-- the sink of `rate` reports `progress`: the first waiting latency request of the input under `tag` is answered, where it exists and is live
abbrev pub measured : {P : Type 0} → Option Input → Option Connection → List Waiting → ℕ → ℕ → Progress → OutcomeParts (Msg P) FlatGroup
measured None owner waiting rate tag progress = idle
measured (Some x) owner waiting rate tag progress =
    cond (goes_on x) (latency_answered rate x owner (question_under waiting x.index tag) progress) idle
