-- The outcome of a control packet, and the order in which it is refused (PulseAudio: `pa_pdispatch_run` and the handlers of
-- pulsecore/protocol-native.c; the order is own).
use Rattle.std.specs.Prelude.{ℕ, Bool, true, false, not, cond, ◌&&◌, nat_eq, List, is_some, unwrap_or, Option, None, Result, Ok, Err, ⊤}
use Rattle.px_types.specs.declared.error_code.ErrorCode.TheVariants.{Access, Command as UnknownCommand, NotSupported}
use Rattle.px_tag.specs.declared.fault.TagFault.{TagFault}
use Rattle.px_tag.specs.Place.{Place, start_of}
use Rattle.px_cmd.specs.Packet.{head_at}
use Rattle.px_cmd.specs.Meant.{meant}
use Rattle.px_cmd.specs.declared.command.Command.{Command}
use Rattle.px_cmd.specs.declared.command.CreateFields.{CreateFields}
use Rattle.px_cmd.specs.declared.command.Command.TheVariants as commands
use Rattle.px_cmd.specs.declared.fault.CmdFault.{CmdFault}
use Rattle.px_cmd.specs.declared.fault.CmdFault.TheVariants.{Protocol, Unknown, Unsupported, NoMemory}
use Rattle.px_names.specs.Clients.{client_on, client_numbered}
use Rattle.px_names.specs.Names.{NO_INDEX, sink_named}
use Rattle.px_outcome.specs.declared.input.Connection.{Connection}
use Rattle.px_outcome.specs.declared.input.Input.{Input}
use Rattle.px_outcome.specs.declared.target.Named.{Named}
use Rattle.px_outcome.specs.Outcome.{idle}
use Rattle.px_outcome.specs.Handled.{Handled}
use Rattle.px_ctl_info.specs.Clients.{LEAST_VERSION, auth, set_client_name, client_info, client_infos, connection_with, kill_client, subscribe}
use Rattle.px_ctl_info.specs.Infos.{sink_info, sink_infos, input_info, input_infos}
use Rattle.px_ctl_info.specs.Lists.{empty_list}
use Rattle.px_ctl_info.specs.Properties.{update_client, remove_client, update_stream, remove_stream, set_stream_name}
use Rattle.px_ctl_info.specs.Sinks.{lookup_sink, set_default_sink, server_info}
use Rattle.px_ctl_play.specs.Attributes.{attributes}
use Rattle.px_ctl_play.specs.Control.{cork, flush, trigger, prebuf}
use Rattle.px_ctl_play.specs.Create.{create}
use Rattle.px_ctl_play.specs.Delete.{delete}
use Rattle.px_ctl_play.specs.Drain.{drain}
use Rattle.px_ctl_play.specs.Kill.{kill_input}
use Rattle.px_ctl_play.specs.Latency.{latency}
use Rattle.px_ctl_play.specs.Move.{move_input}
use Rattle.px_ctl_vol.specs.Inputs.{set_input_volume, set_input_mute}
use Rattle.px_ctl_vol.specs.Sinks.{set_sink_volume, set_sink_mute}
use Rattle.px_state.specs.State.{State, stream_of, input_named}
use Rattle.px_core.specs.Notice.{owner_of}
use Rattle.px_state.specs.Outcome.{CoreOutcome, refused, requested, broken_off}
use Rattle.px_sinks.specs.Sinks.{rate_of, depth_of, sink_of, named_as, named_by, group_named, group_under, targets_of}

-- ---- the commands

-- the version by which a connection's commands are read and answered; before AUTH, whose fields are the same at each version, the least
abbrev pub spoken_by : Connection → ℕ
spoken_by c = unwrap_or c.version LEAST_VERSION

abbrev pub AUTH : ℕ
AUTH = 8

-- new buffer attributes of a stream, with the latency of its sink
abbrev pub new_attributes : {P : Type 0} → State P → Option Input → List ℕ → ℕ → Handled (CoreOutcome P)
new_attributes state stream asked tag = attributes stream (depth_of (sink_of state.sinks stream)) (rate_of (sink_of state.sinks stream)) asked tag

-- the default sink, as a command sees it
abbrev pub default_sink : {P : Type 0} → State P → Named
default_sink state = named_as state.sinks (sink_named state.names NO_INDEX None true)

-- an input ends, and its connection is notified where it is live
abbrev pub killed_input : {P : Type 0} → State P → Option Input → ℕ → Handled (CoreOutcome P)
killed_input state input tag = kill_input input (owner_of state.connections input) state.waiting tag

-- a new stream on the sink that is named
abbrev pub create_named : {P : Type 0} → State P → Connection → ℕ → CreateFields → Named → Handled (CoreOutcome P)
create_named state me tag fields named = create state.inputs state.inputs_made me tag named (group_named state.groups named) fields

-- the volume of the sink that is named, and its mute
abbrev pub sink_volume : {P : Type 0} → State P → Named → List ℕ → ℕ → Handled (CoreOutcome P)
sink_volume state named volume tag = set_sink_volume named (group_named state.groups named) state.inputs volume tag

abbrev pub sink_mute : {P : Type 0} → State P → Named → Bool → ℕ → Handled (CoreOutcome P)
sink_mute state named on tag = set_sink_mute named (group_named state.groups named) state.inputs on tag

-- and those of an input
abbrev pub input_volume : {P : Type 0} → State P → Option Input → List ℕ → ℕ → Handled (CoreOutcome P)
input_volume state input volume tag = set_input_volume input (group_under state.groups input) state.inputs volume tag

abbrev pub input_mute : {P : Type 0} → State P → Option Input → Bool → ℕ → Handled (CoreOutcome P)
input_mute state input on tag = set_input_mute input (group_under state.groups input) state.inputs on tag

-- a command's handler: its outcome, from the parts of the state that it reads
abbrev pub handle : {P : Type 0} → State P → Connection → ℕ → Command → Handled (CoreOutcome P)
handle state me tag (commands.Auth version cookie) = auth state.names me tag version cookie
handle state me tag (commands.SetClientName list) = set_client_name (client_on state.names.clients me.conn) me tag list
handle state me tag (commands.Create fields) = create_named state me tag fields (named_by state.names state.sinks fields.sink true)
handle state me tag (commands.Delete stream) = delete (stream_of state.inputs me.conn stream) state.waiting tag
handle state me tag (commands.Drain stream) = drain (stream_of state.inputs me.conn stream) tag
handle state me tag (commands.Latency stream time) = latency (stream_of state.inputs me.conn stream) time tag
handle state me tag (commands.Cork stream on) = cork (stream_of state.inputs me.conn stream) on tag
handle state me tag (commands.Flush stream) = flush (stream_of state.inputs me.conn stream) tag
handle state me tag (commands.Trigger stream) = trigger (stream_of state.inputs me.conn stream) tag
handle state me tag (commands.Prebuf stream) = prebuf (stream_of state.inputs me.conn stream) tag
handle state me tag (commands.Attributes stream asked adjust_latency early_requests) = new_attributes state (stream_of state.inputs me.conn stream) asked tag
handle state me tag (commands.EmptyList number) = empty_list tag
handle state me tag (commands.LookupSink name) = lookup_sink state.names tag name
handle state me tag commands.ServerInfo = server_info state.names.source (default_sink state) (spoken_by me) tag
handle state me tag (commands.SinkInfo sink) = sink_info (named_by state.names state.sinks sink false) state.groups (spoken_by me) tag
handle state me tag commands.SinkInfoList = sink_infos (targets_of state.sinks) state.groups (spoken_by me) tag
handle state me tag (commands.ClientInfo client) = client_info (client_numbered state.names.clients client) tag
handle state me tag commands.ClientInfoList = client_infos state.names.clients tag
handle state me tag (commands.InputInfo input) = input_info (input_named state.inputs input) state.groups state.lists tag
handle state me tag commands.InputInfoList = input_infos state.inputs state.groups state.lists tag
handle state me tag (commands.Subscribe mask) = subscribe me tag mask
handle state me tag (commands.SinkVolume sink volume) = sink_volume state (named_by state.names state.sinks sink false) volume tag
handle state me tag (commands.InputVolume input volume) = input_volume state (input_named state.inputs input) volume tag
handle state me tag (commands.SinkMute sink on) = sink_mute state (named_by state.names state.sinks sink false) on tag
handle state me tag (commands.InputMute input on) = input_mute state (input_named state.inputs input) on tag
handle state me tag (commands.DefaultSink name) = set_default_sink state.names tag name
handle state me tag (commands.StreamName stream name) = set_stream_name (stream_of state.inputs me.conn stream) state.lists tag name
handle state me tag (commands.KillClient client) = kill_client (connection_with state.connections client) tag
handle state me tag (commands.KillInput input) = killed_input state (input_named state.inputs input) tag
handle state me tag (commands.Move input sink) = move_input (input_named state.inputs input) (named_by state.names state.sinks sink false) state.inputs tag
handle state me tag (commands.UpdateStream stream mode list) = update_stream (stream_of state.inputs me.conn stream) state.lists tag mode list
handle state me tag (commands.UpdateClient mode list) = update_client (client_on state.names.clients me.conn) me tag mode list
handle state me tag (commands.RemoveStream stream keys) = remove_stream (stream_of state.inputs me.conn stream) state.lists tag keys
handle state me tag (commands.RemoveClient keys) = remove_client (client_on state.names.clients me.conn) me tag keys

-- ---- the families of commands: on the playback of one of the connection's own streams

abbrev pub IsOnPlaying : Command → Type 0
IsOnPlaying (commands.Drain stream) = ⊤
IsOnPlaying (commands.Latency stream time) = ⊤
IsOnPlaying (commands.Cork stream on) = ⊤
IsOnPlaying (commands.Flush stream) = ⊤
IsOnPlaying (commands.Trigger stream) = ⊤
IsOnPlaying (commands.Prebuf stream) = ⊤
IsOnPlaying _ = ⊥

-- that create or end one of the connection's own streams, or change its buffer
abbrev pub IsOnStream : Command → Type 0
IsOnStream (commands.Create fields) = ⊤
IsOnStream (commands.Delete stream) = ⊤
IsOnStream (commands.Attributes stream asked adjust_latency early_requests) = ⊤
IsOnStream _ = ⊥

-- on the properties of one of the connection's own streams
abbrev pub IsOnProperties : Command → Type 0
IsOnProperties (commands.StreamName stream name) = ⊤
IsOnProperties (commands.UpdateStream stream mode list) = ⊤
IsOnProperties (commands.RemoveStream stream keys) = ⊤
IsOnProperties _ = ⊥

-- on clients, but for SET_CLIENT_NAME
abbrev pub IsOnClients : Command → Type 0
IsOnClients (commands.Auth version cookie) = ⊤
IsOnClients (commands.Subscribe mask) = ⊤
IsOnClients (commands.ClientInfo client) = ⊤
IsOnClients commands.ClientInfoList = ⊤
IsOnClients (commands.UpdateClient mode list) = ⊤
IsOnClients (commands.RemoveClient keys) = ⊤
IsOnClients (commands.KillClient client) = ⊤
IsOnClients _ = ⊥

-- on names, on the server, or on a list that is empty
abbrev pub IsOnServer : Command → Type 0
IsOnServer (commands.EmptyList number) = ⊤
IsOnServer (commands.LookupSink name) = ⊤
IsOnServer (commands.DefaultSink name) = ⊤
IsOnServer commands.ServerInfo = ⊤
IsOnServer _ = ⊥

-- on sinks
abbrev pub IsOnSinks : Command → Type 0
IsOnSinks (commands.SinkInfo sink) = ⊤
IsOnSinks commands.SinkInfoList = ⊤
IsOnSinks (commands.SinkVolume sink volume) = ⊤
IsOnSinks (commands.SinkMute sink on) = ⊤
IsOnSinks _ = ⊥

-- on inputs of any client
abbrev pub IsOnInputs : Command → Type 0
IsOnInputs (commands.InputInfo input) = ⊤
IsOnInputs commands.InputInfoList = ⊤
IsOnInputs (commands.KillInput input) = ⊤
IsOnInputs (commands.InputVolume input volume) = ⊤
IsOnInputs (commands.InputMute input on) = ⊤
IsOnInputs (commands.Move input sink) = ⊤
IsOnInputs _ = ⊥

-- those whose fields are taken by reference: SET_CLIENT_NAME consumes its list
abbrev pub IsRead : Command → Type 0
IsRead (commands.SetClientName list) = ⊥
IsRead _ = ⊤

-- ---- the order of refusals

-- a packet as it was read: a number above the last one is unknown, one that isn't in the table isn't supported, and a fault in its fields ends the
-- connection
abbrev pub read_answer : {P : Type 0} → State P → Connection → ℕ → ℕ → Result Command CmdFault → CoreOutcome P
read_answer state c at tag (Ok command) = requested tag (handle state c tag command)
read_answer state c at tag (Err (Protocol fault)) = broken_off c.conn at fault
read_answer state c at tag (Err (Unknown command)) = refused tag UnknownCommand
read_answer state c at tag (Err (Unsupported command)) = refused tag NotSupported
read_answer state c at tag (Err NoMemory) = idle

-- before a successful AUTH every other command is refused, with its fields unread
abbrev pub is_barred : Connection → ℕ → Bool
is_barred c command = not (is_some c.version) && not (nat_eq command AUTH)

abbrev pub command_answer : {P : Type 0} → State P → Connection → ℕ → List ℕ → ℕ → ℕ → CoreOutcome P
command_answer state c at packet command tag =
    cond (is_barred c command) (refused tag Access) (read_answer state c at tag (meant (spoken_by c) packet))

abbrev pub head_answer : {P : Type 0} → State P → Connection → ℕ → List ℕ → Result ((ℕ × ℕ) × Place) TagFault → CoreOutcome P
head_answer state c at packet (Err fault) = broken_off c.conn at fault
head_answer state c at packet (Ok head) = command_answer state c at packet head.0.0 head.0.1

-- a packet whose first byte has this offset
abbrev pub packet_answer : {P : Type 0} → State P → Connection → ℕ → List ℕ → CoreOutcome P
packet_answer state c at packet = head_answer state c at packet (head_at (start_of packet))
