-- Descriptions of the server, its sinks, inputs and clients.
use Rattle.std.specs.Prelude.{ℕ, cond, nat_le, List, [], ◌++◌, codes, fold, None, Some}
use Rattle.px_tag.specs.Item.{number, text, flag, usec, volume, spec, channel_map, channel_volumes, proplist}
use Rattle.px_reply.specs.declared.info.ServerInfo.{ServerInfo}
use Rattle.px_reply.specs.declared.info.SinkInfo.{SinkInfo}
use Rattle.px_reply.specs.declared.info.InputInfo.{InputInfo}
use Rattle.px_reply.specs.declared.info.ClientInfo.{ClientInfo}
use Rattle.px_reply.specs.Front.{reply_to, nothing, driver}

-- fields that a version adds: they are there from that version on
abbrev pub since : ℕ → ℕ → List ℕ → List ℕ
since least version fields = cond (nat_le least version) fields []

-- GET_SERVER_INFO: server name, version, user, host, the default sink's spec, its name, the default source's, cookie 0; from 15 on the sink's map
abbrev pub server_reply : ℕ → ℕ → ServerInfo → List ℕ
server_reply version tag i = reply_to tag ++ driver ++ text (Some (codes "1")) ++ text (Some (codes "pulse")) ++ text (Some (codes "localhost")) ++ spec i.spec ++ text (Some i.name) ++ text i.source ++ number 0 ++ since 15 version (channel_map i.map)

-- what a sink has from 15 on: base volume, state (running), number of volume steps, no card
abbrev pub sink_state : List ℕ
sink_state = volume 0x10000 ++ number 0 ++ number 65537 ++ number nothing

-- and from 16 on: no ports, and so none that is active
abbrev pub sink_ports : List ℕ
sink_ports = number 0 ++ text None

-- bytes, followed by a sink: index, name, description, spec, map, module, volume, mute, monitor's index and name, latency, driver, flags,
-- properties, configured latency, and what later versions add
abbrev pub with_sink : ℕ → List ℕ → SinkInfo → List ℕ
with_sink version bytes i = bytes ++ number i.index ++ text (Some i.name) ++ text (Some i.name) ++ spec i.spec ++ channel_map i.map ++ number nothing ++ channel_volumes i.volume ++ flag i.mute ++ number nothing ++ text None ++ usec 0 ++ driver ++ number 0x60 ++ proplist [] ++ usec 0 ++ since 15 version sink_state ++ since 16 version sink_ports

-- bytes, followed by a sink input: index, name, module, client, sink, spec, map, volume, buffer's and sink's latency, resample method,
-- driver, mute, properties
abbrev pub with_input : List ℕ → InputInfo → List ℕ
with_input bytes i = bytes ++ number i.index ++ text i.name ++ number nothing ++ number i.client ++ number i.sink ++ spec i.spec ++ channel_map i.map ++ channel_volumes i.volume ++ usec 0 ++ usec 0 ++ text None ++ driver ++ flag i.mute ++ proplist i.list

-- bytes, followed by a client: index, name, module, driver, properties
abbrev pub with_client : List ℕ → ClientInfo → List ℕ
with_client bytes i = bytes ++ number i.index ++ text i.name ++ number nothing ++ driver ++ proplist i.list

-- one sink after the other
abbrev pub sinks_reply : ℕ → ℕ → List SinkInfo → List ℕ
sinks_reply version tag infos = fold (with_sink version) (reply_to tag) infos

abbrev pub inputs_reply : ℕ → List InputInfo → List ℕ
inputs_reply tag infos = fold with_input (reply_to tag) infos

abbrev pub clients_reply : ℕ → List ClientInfo → List ℕ
clients_reply tag infos = fold with_client (reply_to tag) infos
