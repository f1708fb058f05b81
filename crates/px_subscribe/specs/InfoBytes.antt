-- The infos of one moment with their bytes, and the events between two moments of which all infos are given.
use Rattle.std.specs.Prelude.{◌≤◌, ℕ, nat_eq, List, Option, IsTrue, IfSome, All}
use Rattle.std.specs.List.{find}
use Rattle.px_tag.specs.Item.{IsText, is_text}
use Rattle.px_reply.specs.declared.info.SinkInfo.{SinkInfo}
use Rattle.px_reply.specs.declared.info.InputInfo.{InputInfo}
use Rattle.px_reply.specs.declared.info.ClientInfo.{ClientInfo}
use Rattle.px_reply.specs.declared.info.ServerInfo.{ServerInfo}
use Rattle.px_reply.specs.Front.{reply_to}
use Rattle.px_reply.specs.Info.{with_sink, with_input, with_client}
use Rattle.px_ctl_info.specs.Clients.{SERVER_VERSION}
use Rattle.px_subscribe.specs.declared.event.Facility.TheVariants.{Sink, Input, Client}
use Rattle.px_subscribe.specs.declared.event.Event.{Event}
use Rattle.px_subscribe.specs.declared.between.Counts.{Counts}
use Rattle.px_subscribe.specs.Became.{events_of}
use Rattle.px_subscribe.specs.Infos.{Infos, Given}

-- ---- infos by their index, the first of each

abbrev pub sink_at : List SinkInfo → ℕ → Option SinkInfo
sink_at infos i = find (λ s. nat_eq (SinkInfo.index s) i) infos

abbrev pub input_at : List InputInfo → ℕ → Option InputInfo
input_at infos i = find (λ x. nat_eq (InputInfo.index x) i) infos

abbrev pub client_at : List ClientInfo → ℕ → Option ClientInfo
client_at infos i = find (λ c. nat_eq (ClientInfo.index c) i) infos

-- ---- the limits of a packet: names without a zero byte, and up to 32 channels

abbrev pub IsWritableSink : SinkInfo → Type 0
IsWritableSink info = IsTrue (is_text info.name) × (info.spec.channels ≤ 32)

abbrev pub IsWritableInput : InputInfo → Type 0
IsWritableInput info = IsText info.name × (info.spec.channels ≤ 32)

abbrev pub IsWritableClient : ClientInfo → Type 0
IsWritableClient info = IsText info.name

abbrev pub IsWritableServer : ServerInfo → Type 0
IsWritableServer info = IsTrue (is_text info.name) × (info.spec.channels ≤ 32) × IsText info.source

-- ---- all infos of one moment

pub record InfoLists : Type 0 where
  pub sinks : List SinkInfo
  pub inputs : List InputInfo
  pub clients : List ClientInfo
  pub server : Option ServerInfo

abbrev pub infos_in : InfoLists → Infos
infos_in infos = record {
  sinks = sink_at infos.sinks;
  inputs = input_at infos.inputs;
  clients = client_at infos.clients;
  server = infos.server;
}

pub record AreWritable (infos : InfoLists) : Type 0 where
  pub sinks : All IsWritableSink infos.sinks
  pub inputs : All IsWritableInput infos.inputs
  pub clients : All IsWritableClient infos.clients
  pub server : IfSome infos.server IsWritableServer

-- the number of indices that were given
abbrev pub given_by : Counts → Given
given_by counts = record { sinks = counts.sinks; inputs = counts.inputs; clients = counts.clients }

-- the bytes of each, at the server's version
abbrev pub sink_bytes : SinkInfo → List ℕ
sink_bytes info = with_sink SERVER_VERSION (reply_to 0) info

abbrev pub input_bytes : InputInfo → List ℕ
input_bytes info = with_input (reply_to 0) info

abbrev pub client_bytes : ClientInfo → List ℕ
client_bytes info = with_client (reply_to 0) info

-- the events of each facility
abbrev pub sinks_events : List SinkInfo → List SinkInfo → ℕ → List Event
sinks_events before after given = events_of Sink (with_sink SERVER_VERSION (reply_to 0)) (sink_at before) (sink_at after) given

abbrev pub inputs_events : List InputInfo → List InputInfo → ℕ → List Event
inputs_events before after given = events_of Input (with_input (reply_to 0)) (input_at before) (input_at after) given

abbrev pub clients_events : List ClientInfo → List ClientInfo → ℕ → List Event
clients_events before after given = events_of Client (with_client (reply_to 0)) (client_at before) (client_at after) given
