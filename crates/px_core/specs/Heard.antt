-- The changes of all infos over a step, and which connections are sent which of these events.
use Rattle.std.specs.Prelude.{◌≡◌, ℕ, ◌<◌, Bool, false, nat_eq, List, [], map, filter, Option, None, Some, option_map, option_to_list}
use Rattle.std.specs.List.{AllByRecursion}
use Rattle.px_types.specs.declared.ids.ConnId.{ConnId}
use Rattle.px_model.specs.Frame.{SampleSpec}
use Rattle.px_names.specs.declared.client.Client.{Client}
use Rattle.px_names.specs.Clients.{client_on, client_numbered, mask_of}
use Rattle.px_reply.specs.Front.{reply_to}
use Rattle.px_reply.specs.Info.{with_client}
use Rattle.px_ctl_info.specs.Clients.{info_of}
use Rattle.px_outcome.specs.declared.input.Connection.{Connection}
use Rattle.px_subscribe.specs.declared.event.Event.{Event}
use Rattle.px_subscribe.specs.Event.{message_of, hears}
use Rattle.px_subscribe.specs.Infos.{Infos, Given}
use Rattle.px_subscribe.specs.declared.event.Facility.TheVariants as facility
use Rattle.px_subscribe.specs.Became.{became, event, about, events_between}
use Rattle.px_subscribe.specs.InfoBytes.{infos_in}
use Rattle.px_subscribe.specs.Moments.{info_lists_of, given_in}
use Rattle.px_state.specs.declared.effect.Effect.{Effect}
use Rattle.px_state.specs.declared.effect.Effect.TheVariants.{Sent, Closed}
use Rattle.px_state.specs.Effect.{sent}
use Rattle.px_state.specs.State.{State, connection_of}
use Rattle.px_state.specs.Outcome.{outcome_effects}
use Rattle.px_core.specs.Connecting.{connect_effects, going_on}
use Rattle.px_state.specs.Events.{scene_of}
use Rattle.px_core.specs.Step.{Step, connect, frame, broken, close, cut, sweep, notice, out, answer_of}

-- ---- what changed

-- all infos of a state
abbrev pub infos_of : {P : Type 0} → State P → Infos
infos_of state = infos_in (info_lists_of state.sinks (scene_of state))

-- the number of indices given by then
abbrev pub given_by : {P : Type 0} → State P → Given
given_by state = given_in state.sinks state.clients_made (scene_of state)

abbrev pub events_of : {P : Type 0} → State P → State P → List Event
events_of before after = events_between (given_by after) (infos_of before) (infos_of after)

-- a client is the one with its index, and events about it follow its own info
pub record IsOwn {P : Type 0} (state : State P) (client : Client) : Type 0 where
  pub given : client.index < (given_by state).clients
  pub found : client_numbered state.names.clients client.index ≡ Some client
  pub info : (infos_of state).clients client.index ≡ Some (info_of client)

-- the event about a client with an index, by what it was before and what it is after
abbrev pub client_events : ℕ → Option Client → Option Client → List Event
client_events index before after = option_to_list (option_map (event facility.Client index) (became (with_client (reply_to 0)) (option_map info_of before) (option_map info_of after)))

-- the event about each client that is there after a step, and each that was there before it, is by its own info
pub record SayOfClients {P : Type 0} (before after : State P) : Type 0 where
  pub here : AllByRecursion (λ c. about facility.Client (Client.index c) (events_of before after) ≡ client_events c.index (client_numbered before.names.clients c.index) (Some c)) after.names.clients
  pub gone : AllByRecursion (λ c. about facility.Client (Client.index c) (events_of before after) ≡ client_events c.index (Some c) (client_numbered after.names.clients c.index)) before.names.clients

-- ---- who is notified

-- the mask of a live connection; one that has ended, or doesn't exist, is notified of nothing
abbrev pub mask_by : Option Connection → List Client → ℕ
mask_by None clients = 0
mask_by (Some c) clients = mask_of (client_on clients c.conn)

abbrev pub mask_on : {P : Type 0} → State P → ConnId → ℕ
mask_on state conn = mask_by (going_on state.connections conn) state.names.clients

-- the events of the facilities that a mask has, in order
abbrev pub heard : ℕ → List Event → List Event
heard mask events = filter (λ e. hears mask (Event.facility e)) events

-- a connection is sent a message for each event
abbrev pub sent_events : ConnId → List Event → List Effect
sent_events conn events = map (λ e. sent conn (message_of e)) events

-- ---- the effects concerned

-- those that go to a connection
abbrev pub goes_to : ConnId → Effect → Bool
goes_to conn (Sent to packet) = nat_eq to.0 conn.0
goes_to conn (Closed ended reason fault at) = false

abbrev pub sent_to : ConnId → List Effect → List Effect
sent_to conn effects = filter (goes_to conn) effects

-- a step's effects other than events
abbrev pub own_effects : {P : Type 0} → (P → SampleSpec) → State P → Step P → List Effect
own_effects spec_of state (connect conn) = connect_effects (connection_of state.connections conn) conn state
own_effects spec_of state (frame conn f) = outcome_effects (Some conn) (answer_of spec_of state (frame conn f))
own_effects spec_of state (broken conn fault at) = outcome_effects (Some conn) (answer_of spec_of state (broken conn fault at))
own_effects spec_of state (close conn) = outcome_effects (Some conn) (answer_of spec_of state (close conn))
own_effects spec_of state (cut conn) = outcome_effects (Some conn) (answer_of spec_of state (cut conn))
own_effects spec_of state sweep = outcome_effects None (answer_of spec_of state sweep)
own_effects spec_of state (notice sink n) = outcome_effects None (answer_of spec_of state (notice sink n))
own_effects spec_of state (out sink) = []
