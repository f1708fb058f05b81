-- The events between two moments: the kind of each object's event, by its info before and after.
use Rattle.std.specs.Prelude.{◌≡◌, ℕ, ◌<◌, Bool, cond, ◌&&◌, nat_eq, bytes_eq, List, ◌++◌, filter, flat_map, Option, None, Some, option_map, option_to_list}
use Rattle.std.specs.List.{range_with_len}
use Rattle.px_reply.specs.Front.{reply_to}
use Rattle.px_reply.specs.Info.{server_reply, with_sink, with_input, with_client}
use Rattle.px_ctl_info.specs.Clients.{SERVER_VERSION}
use Rattle.px_subscribe.specs.declared.event.Facility.{Facility}
use Rattle.px_subscribe.specs.declared.event.Facility.TheVariants.{Sink, Input, Client, Server}
use Rattle.px_subscribe.specs.declared.event.Kind.{Kind}
use Rattle.px_subscribe.specs.declared.event.Kind.TheVariants.{New, Change, Remove}
use Rattle.px_subscribe.specs.declared.event.Event.{Event}
use Rattle.px_subscribe.specs.Event.{facility_code}
use Rattle.px_subscribe.specs.Infos.{Infos, Given}

-- the index of the server
abbrev pub NO_INDEX : ℕ
NO_INDEX = 0xFFFFFFFF

-- the kind of an object's event: it is new, gone, or changed where the bytes of its info differ
abbrev pub became : {A : Type 0} → (A → List ℕ) → Option A → Option A → Option Kind
became info_bytes None None = None
became info_bytes None (Some after) = Some New
became info_bytes (Some before) None = Some Remove
became info_bytes (Some before) (Some after) = cond (bytes_eq (info_bytes before) (info_bytes after)) None (Some Change)

abbrev pub event : Facility → ℕ → Kind → Event
event facility index kind = record { facility = facility; kind = kind; index = index }

-- the event of one object, where there is one
abbrev pub events_at : {A : Type 0} → Facility → (A → List ℕ) → (ℕ → Option A) → (ℕ → Option A) → ℕ → List Event
events_at facility info_bytes before after index = option_to_list (option_map (event facility index) (became info_bytes (before index) (after index)))

-- the events of all objects of a facility, in rising index
abbrev pub events_of : {A : Type 0} → Facility → (A → List ℕ) → (ℕ → Option A) → (ℕ → Option A) → ℕ → List Event
events_of facility info_bytes before after given = flat_map (events_at facility info_bytes before after) (range_with_len 0 given)

abbrev pub server_events : Infos → Infos → List Event
server_events before after = option_to_list (option_map (event Server NO_INDEX) (became (server_reply SERVER_VERSION 0) before.server after.server))

-- sinks, inputs, clients, and then the server, each by its info at the server's version
abbrev pub events_between : Given → Infos → Infos → List Event
events_between given before after =
    events_of Sink (with_sink SERVER_VERSION (reply_to 0)) before.sinks after.sinks given.sinks
    ++ events_of Input (with_input (reply_to 0)) before.inputs after.inputs given.inputs
    ++ events_of Client (with_client (reply_to 0)) before.clients after.clients given.clients
    ++ server_events before after

-- ---- the law

abbrev pub is_about : Facility → ℕ → Event → Bool
is_about facility index e = nat_eq (facility_code e.facility) (facility_code facility) && nat_eq e.index index

abbrev pub about : Facility → ℕ → List Event → List Event
about facility index events = filter (is_about facility index) events

-- the events about an object are the one of its kind by its infos, or none
pub record SayWhatBecame (given : Given) (before after : Infos) : Type 0 where
  pub sinks : (i : ℕ) → i < given.sinks → about Sink i (events_between given before after) ≡ events_at Sink (with_sink SERVER_VERSION (reply_to 0)) before.sinks after.sinks i
  pub inputs : (i : ℕ) → i < given.inputs → about Input i (events_between given before after) ≡ events_at Input (with_input (reply_to 0)) before.inputs after.inputs i
  pub clients : (i : ℕ) → i < given.clients → about Client i (events_between given before after) ≡ events_at Client (with_client (reply_to 0)) before.clients after.clients i
  pub server : about Server NO_INDEX (events_between given before after) ≡ server_events before after
