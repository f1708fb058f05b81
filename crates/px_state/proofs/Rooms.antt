-- The room that is left once a change has taken its places.
use Rattle.std.proofs.Common.{arith, ◌≡◌, ℕ, ◌+◌, ◌≤◌, length, ap, sym, subst}
use Rattle.std.specs.Prelude.{vec_capacity}
use Rattle.std.specs.VecDeque.{deque_len, deque_capacity}
use Rattle.px_state.specs.declared.tables.Tables.{Tables}
use Rattle.px_names.specs.InputLists.{RoomyLists}
use Rattle.px_input_table.specs.InputTable.{RoomyInputs}
use Rattle.px_state.specs.Tables.{HasRoom, HavePlaces}
use Rattle.px_state.proofs.Waiting.{fewer_places, many_places}

-- a place less is there too
pub less_room : {P : Type 0} (n : ℕ) (t : Tables P) → HasRoom (n + 1) t → HasRoom n t
less_room n t had = record { places = omega (arith, had.places); streams = omega (arith, had.streams); lists = omega (arith, had.lists); waiting = omega (arith, had.waiting); delayed = omega (arith, had.delayed); posted = fewer_places n t.posted.items had.posted }

-- the inputs have their room still
pub record StillRoomy (old new : RoomyInputs) : Type 0 where
  pub len : length new.items ≤ length old.items + 1
  pub places : new.places ≡ old.places
  pub streams : old.streams ≤ new.streams + 1

-- and the requests that are answered later
pub record StillWaits {P : Type 0} (old new : Tables P) : Type 0 where
  pub len : deque_len new.waiting ≤ deque_len old.waiting + 1
  pub capacity : deque_capacity new.waiting ≡ deque_capacity old.waiting

-- and the messages that wait while their inputs move
pub record StillDelays {P : Type 0} (old new : Tables P) : Type 0 where
  pub len : length new.delayed.items ≤ length old.delayed.items + 1
  pub capacity : vec_capacity new.delayed ≡ vec_capacity old.delayed

pub same_delays : {P : Type 0} (old new : Tables P) → new.delayed ≡ old.delayed → StillDelays old new
same_delays old new e = record { len = omega (arith, ap (λ v. length v.items) e); capacity = ap (λ v. vec_capacity v) e }

-- and the lists of inputs
pub record StillListed (old new : RoomyLists) : Type 0 where
  pub len : length new.items ≤ length old.items + 1
  pub places : new.places ≡ old.places

pub same_listed : (old new : RoomyLists) → new ≡ old → StillListed old new
same_listed old new e = record { len = omega (arith, ap (λ (t : RoomyLists). length t.items) e); places = ap (λ (t : RoomyLists). t.places) e }

pub same_roomy : (old new : RoomyInputs) → new ≡ old → StillRoomy old new
same_roomy old new e = record {
  len = omega (arith, ap (λ (t : RoomyInputs). length t.items) e);
  places = ap (λ (t : RoomyInputs). t.places) e;
  streams = omega (arith, ap (λ (t : RoomyInputs). t.streams) e);
}

pub same_waits : {P : Type 0} (old new : Tables P) → new.waiting ≡ old.waiting → StillWaits old new
same_waits old new e = record { len = omega (arith, ap (λ v. deque_len v) e); capacity = ap (λ v. deque_capacity v) e }

pub room_left : {P : Type 0} (n : ℕ) (old new : Tables P) → StillRoomy old.inputs new.inputs → StillListed old.lists new.lists → StillWaits old new → StillDelays old new → HavePlaces n new.posted.items → HasRoom (n + 1) old → HasRoom n new
room_left n old new still listed waits delays posted had = record {
  places = omega (arith, still.len, still.places, had.places);
  streams = omega (arith, still.streams, had.streams);
  lists = omega (arith, listed.len, listed.places, had.lists);
  waiting = omega (arith, waits.len, waits.capacity, had.waiting);
  delayed = omega (arith, delays.len, delays.capacity, had.delayed);
  posted = posted;
}

-- a table of another kind takes none of it
pub room_beside : {P : Type 0} (n : ℕ) (old new : Tables P) → new.inputs ≡ old.inputs → new.lists ≡ old.lists → new.waiting ≡ old.waiting → new.delayed ≡ old.delayed → new.posted ≡ old.posted → HasRoom (n + 1) old → HasRoom n new
room_beside n old new inputs lists waiting delayed posted had =
    room_left n old new (same_roomy old.inputs new.inputs inputs) (same_listed old.lists new.lists lists) (same_waits old new waiting) (same_delays old new delayed) (subst (λ q. HavePlaces n q.items) (sym posted) (fewer_places n old.posted.items had.posted)) had

-- several places less
pub room_kept : {P : Type 0} (n more : ℕ) (t : Tables P) → HasRoom (n + more) t → HasRoom n t
room_kept n more t had = record { places = omega (arith, had.places); streams = omega (arith, had.streams); lists = omega (arith, had.lists); waiting = omega (arith, had.waiting); delayed = omega (arith, had.delayed); posted = many_places n more t.posted.items had.posted }
