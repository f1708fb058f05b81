-- Starts of workers, and clients that come and go, one behind the other.
use Rattle.std.proofs.Common.{◌≡◌, ℕ, ◌+◌, ◌≤◌, ◌++◌, [], List, length, length-append, arith, ap, refl, ◌∙◌}
use Rattle.px_workers.specs.Accepting.{Starting, Accepting, Starts, HasRoom, Takes}
use Rattle.px_workers.proofs.Later.{later_refl, later_later}

pub starts_refl : {X Y D R C : Type 0} (a : Starting X Y D R C) → Starts a a
starts_refl a = record { parts = refl; clients = refl; all = refl; capacity = refl; later = later_refl a.host; lent = refl }

pub starts_then : {X Y D R C : Type 0} (a b c : Starting X Y D R C) → Starts a b → Starts b c → Starts a c
starts_then a b c first then = record {
  parts = let one = first.parts in let two = then.parts in omega arith;
  clients = then.clients ∙ first.clients;
  all = then.all ∙ first.all;
  capacity = then.capacity ∙ first.capacity;
  later = later_later a.host b.host c.host first.later then.later;
  lent = then.lent ∙ first.lent;
}

pub takes_refl : {X D R C : Type 0} (a : Accepting X D R C) → HasRoom a → Takes a a
takes_refl a room = record { parts = refl; few = room.few; sinks = refl; later = later_refl a.host; lent = refl }

pub takes_then : {X D R C : Type 0} (a b c : Accepting X D R C) → Takes a b → Takes b c → Takes a c
takes_then a b c first then = record {
  parts = then.parts ∙ first.parts;
  few = then.few;
  sinks = then.sinks ∙ first.sinks;
  later = later_later a.host b.host c.host first.later then.later;
  lent = then.lent ∙ first.lent;
}

-- there is room still
pub room_then : {X D R C : Type 0} (a b : Accepting X D R C) → HasRoom a → Takes a b → HasRoom b
room_then a b room taken = record { seats = let s = room.seats in let p = taken.parts in omega arith; few = taken.few }

-- where no sink had a worker, those with one and those without are all
pub all_started : {X : Type 0} (sinks idle were had : List X) → sinks ++ idle ≡ were ++ had → were ≡ [] → sinks ++ idle ≡ had
all_started {X = X} sinks idle were had all none = all ∙ ap (λ (l : List X). l ++ had) none

-- and the shares that are left and those of the sinks are all
pub parts_started : {X : Type 0} (parts before : ℕ) (sinks idle had : List X) → parts + length had ≡ before + length idle → sinks ++ idle ≡ had → parts + length sinks ≡ before
parts_started {X = X} parts before sinks idle had given all = omega (arith, given, ap (length {A = X}) all, length-append sinks idle)

-- there is room for all of them still
pub room_left : {X : Type 0} (sinks idle had : List X) (capacity before : ℕ) → sinks ++ idle ≡ had → capacity ≡ before → length had ≤ before → length sinks + length idle ≤ capacity
room_left {X = X} sinks idle had capacity before all same fits = omega (arith, same, fits, ap (length {A = X}) all, length-append sinks idle)
