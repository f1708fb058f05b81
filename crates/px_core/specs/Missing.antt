-- The commands that read a group of volumes: the sink that each names, or the input.
use Rattle.std.specs.Prelude.{ℕ, true, false, Option, None, Some}
use Rattle.px_cmd.specs.declared.command.Command.{Command}
use Rattle.px_cmd.specs.declared.command.Command.TheVariants as commands
use Rattle.px_outcome.specs.declared.target.Named.{Named}
use Rattle.px_sinks.specs.Sinks.{named_by}
use Rattle.px_state.specs.State.{State}

-- the sink, by its index or name; CREATE names the default sink by neither
abbrev pub sink_named_in : {P : Type 0} → State P → Command → Option Named
sink_named_in state (commands.Create fields) = Some (named_by state.names state.sinks fields.sink true)
sink_named_in state (commands.SinkInfo sink) = Some (named_by state.names state.sinks sink false)
sink_named_in state (commands.SinkVolume sink volume) = Some (named_by state.names state.sinks sink false)
sink_named_in state (commands.SinkMute sink on) = Some (named_by state.names state.sinks sink false)
sink_named_in state _ = None

-- the index of the input
abbrev pub input_named_in : Command → Option ℕ
input_named_in (commands.InputInfo input) = Some input
input_named_in (commands.InputVolume input volume) = Some input
input_named_in (commands.InputMute input on) = Some input
input_named_in _ = None
