-- The tables that hold the core's state, seen as the state, and the room that they have.
use Rattle.std.specs.Prelude.{ℕ, zero, suc, ◌+◌, ◌-◌, ◌≤◌, List, [], ◌∷◌, map, length, vec_capacity}
use Rattle.std.specs.List.{AllByRecursion}
use Rattle.std.specs.VecDeque.{deque_len, deque_capacity}
use Rattle.std.specs.declared.collections.VecDeque.{VecDeque}
use Rattle.px_msg.specs.declared.message.Msg.{Msg}
use Rattle.px_state.specs.declared.tables.Tables.{Tables}
use Rattle.px_state.specs.State.{State}
use Rattle.px_state.specs.Out.{Roomy}

-- queues of messages as lists
abbrev pub lists_of : {P Z : Type 0} → List (VecDeque (Msg P) Z) → List (List (Msg P))
lists_of queues = map (λ q. q.items) queues

abbrev pub state_of : {P : Type 0} → Tables P → State P
state_of t = record {
  names = t.names;
  sinks = t.sinks;
  connections = t.connections.items;
  inputs = t.inputs.items;
  lists = t.lists.items;
  waiting = t.waiting.items;
  posted = lists_of t.posted.items;
  delayed = t.delayed.items;
  groups = t.groups.items;
  clients_made = t.clients_made;
  inputs_made = t.inputs_made;
}

-- the number of further messages that each queue takes without memory
abbrev pub rooms_of : {P Z : Type 0} → List (VecDeque (Msg P) Z) → List ℕ
rooms_of queues = map (λ q. deque_capacity q - deque_len q) queues

abbrev pub core_of : {P : Type 0} → Tables P → Roomy P
core_of t = record { state = state_of t; room = rooms_of t.posted.items }

-- ---- room for `n` more entries without memory

abbrev pub HasPlaces : {P Z : Type 0} → ℕ → VecDeque (Msg P) Z → Type 0
HasPlaces n q = deque_len q + n ≤ deque_capacity q

-- in the queue at a place, where there is one
abbrev pub HasPlacesAt : {P Z : Type 0} → ℕ → ℕ → List (VecDeque (Msg P) Z) → Type 0
HasPlacesAt n place [] = Unit {0}
HasPlacesAt n zero (q ∷ queues) = HasPlaces n q
HasPlacesAt n (suc place) (q ∷ queues) = HasPlacesAt n place queues

-- in each queue
abbrev pub HavePlaces : {P Z : Type 0} → ℕ → List (VecDeque (Msg P) Z) → Type 0
HavePlaces n queues = AllByRecursion (HasPlaces n) queues

-- in each table that a change can make longer
pub record HasRoom {P : Type 0} (n : ℕ) (t : Tables P) : Type 0 where
  pub places : length t.inputs.items + n ≤ t.inputs.places
  pub streams : n ≤ t.inputs.streams
  pub lists : length t.lists.items + n ≤ t.lists.places
  pub waiting : deque_len t.waiting + n ≤ deque_capacity t.waiting
  pub delayed : length t.delayed.items + n ≤ vec_capacity t.delayed
  pub posted : HavePlaces n t.posted.items
