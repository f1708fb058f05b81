-- The infos of a scene, the connections that subscribe in it, and the subscription events between one scene and a later one (PulseAudio:
-- `pa_subscription_post` of pulsecore/core-subscribe.c, and `subscription_cb` of pulsecore/protocol-native.c; that events follow the infos, and so
-- come once a step and only where an info differs, is own).
use Rattle.std.specs.Prelude.{ℕ, ◌≤◌, cond, List, [], ◌∷◌, map, length, flat_map, option_map, All}
use Rattle.px_names.specs.declared.client.Client.{Client}
use Rattle.px_names.specs.Clients.{client_on, mask_of}
use Rattle.px_header.specs.declared.header.SinkSpec.{SinkSpec}
use Rattle.px_outcome.specs.declared.input.Connection.{Connection}
use Rattle.px_outcome.specs.declared.input.Input.{Input}
use Rattle.px_outcome.specs.declared.sending.Sending.{Sending}
use Rattle.px_reply.specs.declared.info.ClientInfo.{ClientInfo}
use Rattle.px_ctl_info.specs.Clients.{info_of}
use Rattle.px_ctl_info.specs.Infos.{sink_info_list, input_info_list}
use Rattle.px_ctl_info.specs.Sinks.{server_of}
use Rattle.px_sinks.specs.Sinks.{target_at, targets_of}
use Rattle.px_subscribe.specs.declared.announce.Subscriber.{Subscriber}
use Rattle.px_subscribe.specs.Announce.{announced_all}
use Rattle.px_subscribe.specs.Infos.{Given}
use Rattle.px_subscribe.specs.Became.{events_between}
use Rattle.px_subscribe.specs.InfoBytes.{InfoLists, infos_in, clients_events}
use Rattle.px_subscribe.specs.Scene.{Scene}

-- inputs that an info can show: each has at most 32 channels
abbrev pub AreShown : List Input → Type 0
AreShown inputs = All (λ x. (Input.spec x).channels ≤ 32) inputs

-- the infos that the commands for lists reply with, and that for the server
abbrev pub info_lists_of : List SinkSpec → Scene → InfoLists
info_lists_of sinks s = record {
  sinks = sink_info_list s.groups (targets_of sinks);
  inputs = input_info_list s.groups s.lists s.inputs;
  clients = map info_of s.clients;
  server = option_map (server_of s.source) (target_at sinks s.fallback);
}

-- a live connection, with the mask of its client
abbrev pub subscriber_of : List Client → Connection → List Subscriber
subscriber_of clients c = cond c.marked [] (record { conn = c.conn; mask = mask_of (client_on clients c.conn) } ∷ [])

-- in order of connecting
abbrev pub subscribers_in : List Client → List Connection → List Subscriber
subscribers_in clients connections = flat_map (subscriber_of clients) connections

abbrev pub subscribers_of : Scene → List Subscriber
subscribers_of s = subscribers_in s.clients s.connections

-- the numbers of indices given; of clients `clients_made`
abbrev pub given_in : List SinkSpec → ℕ → Scene → Given
given_in sinks clients_made s = record { sinks = length sinks; inputs = s.inputs_made; clients = clients_made }

-- the subscription events between the infos `before` and those of a scene, to those who subscribe in it
abbrev pub notified_since : List SinkSpec → ℕ → InfoLists → Scene → List Sending
notified_since sinks clients_made before s = announced_all (subscribers_of s) (events_between (given_in sinks clients_made s) (infos_in before) (infos_in (info_lists_of sinks s)))

-- and those between one scene and a later one
abbrev pub notified_between : List SinkSpec → ℕ → Scene → Scene → List Sending
notified_between sinks clients_made before after = notified_since sinks clients_made (info_lists_of sinks before) after

-- the subscription events between the clients' infos `before` and those of a scene
abbrev pub joined_since : ℕ → List ClientInfo → Scene → List Sending
joined_since clients_made before s = announced_all (subscribers_of s) (clients_events before (map info_of s.clients) clients_made)
