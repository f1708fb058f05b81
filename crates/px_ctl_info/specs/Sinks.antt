-- The commands on sinks and their names (PulseAudio: `command_lookup`, `command_set_default_sink_or_source` and `command_get_server_info` of
-- pulsecore/protocol-native.c).
use Rattle.std.specs.Prelude.{ℕ, false, List, [], ◌∷◌, ◌++◌, Option, Result, Ok, Err}
use Rattle.px_types.specs.declared.error_code.ErrorCode.{ErrorCode}
use Rattle.px_types.specs.declared.error_code.ErrorCode.TheVariants.{NoEntity}
use Rattle.px_types.specs.declared.ids.SinkId.{SinkId}
use Rattle.px_tag.specs.Item.{number}
use Rattle.px_names.specs.Names.{Naming, NO_INDEX, sink_named}
use Rattle.px_reply.specs.declared.info.ServerInfo.{ServerInfo}
use Rattle.px_reply.specs.Front.{reply_to}
use Rattle.px_reply.specs.Info.{server_reply}
use Rattle.px_outcome.specs.declared.change.Change.TheVariants.{Defaulted}
use Rattle.px_outcome.specs.declared.refusal.Refusal.TheVariants.{Code}
use Rattle.px_outcome.specs.declared.target.Target.{Target}
use Rattle.px_outcome.specs.declared.target.Named.{Named}
use Rattle.px_outcome.specs.Outcome.{OutcomeParts, replied}
use Rattle.px_outcome.specs.Handled.{Handled, ◌>>=◌, present}
use Rattle.px_outcome.specs.Target.{raw_of, target_of}

-- the value found, or the refusal with the error
abbrev pub found : {A : Type 0} → Result A ErrorCode → Handled A
found (Ok x) = Ok x
found (Err code) = Err (Code code)

-- the sink with a name, which must be given
abbrev pub sink_called : Naming → Option (List ℕ) → Handled SinkId
sink_called names name = found (sink_named names NO_INDEX name false)

-- LOOKUP_SINK: the sink's index
abbrev pub lookup_sink : {M G : Type 0} → Naming → ℕ → Option (List ℕ) → Handled (OutcomeParts M G)
lookup_sink names tag name = do
  sink ← sink_called names name
  Ok (replied (reply_to tag ++ number sink.0) [])

-- SET_DEFAULT_SINK: the sink becomes the default sink
abbrev pub set_default_sink : {M G : Type 0} → Naming → ℕ → Option (List ℕ) → Handled (OutcomeParts M G)
set_default_sink names tag name = do
  sink ← sink_called names name
  Ok (replied (reply_to tag) (Defaulted sink ∷ []))

-- the server's info, where `source` is the name of the default source, if it tells one, and `sink` the default sink
abbrev pub server_of : Option (List ℕ) → Target → ServerInfo
server_of source sink = record { spec = raw_of sink.spec; name = sink.name; source = source; map = sink.map }

-- GET_SERVER_INFO at a version, where `source` is the name of the default source, if any, and `named` the default sink
abbrev pub server_info : {M G : Type 0} → Option (List ℕ) → Named → ℕ → ℕ → Handled (OutcomeParts M G)
server_info source named version tag = do
  sink ← present (target_of named) NoEntity
  Ok (replied (server_reply version tag (server_of source sink)) [])
