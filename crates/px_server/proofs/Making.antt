-- What is made for a sink.
use Rattle.std.proofs.Common.{◌≡◌, ℕ, Bool, true, ◌+◌, ◌≤◌, ◌++◌, ◌∷◌, [], List, length, map, Option, None, Some, IfSome, IsTrue, refl, ap, sym, subst, ◌∙◌, arith, rules, length-append, append_assoc}
use Rattle.std.proofs.lemmas.List.{map-append, append-nil}
use Rattle.px_types.specs.declared.ids.SinkId.{SinkId}
use Rattle.px_annals.specs.declared.entry.LaneEntry.{LaneEntry}
use Rattle.px_ends.specs.Device.{DeviceState}
use Rattle.px_ends.specs.Host.{HostState, Lent}
use Rattle.px_header.specs.declared.header.SinkSpec.{SinkSpec}
use Rattle.px_lane.specs.Lane.{Mixer}
use Rattle.px_lane_cell.specs.Cell.{Cell}
use Rattle.px_core_cell.specs.declared.ends.CoreEnd.{CoreEnd}
use Rattle.px_core_cell.specs.Boxes.{Boxes, boxes_of}
use Rattle.px_core_cell.specs.Cell.{ends_of}
use Rattle.px_core_cell.specs.History.{fresh_ends}
use Rattle.px_workers.specs.declared.sink_state.SinkFault.TheVariants.{Nothing}
use Rattle.px_server.specs.Fresh.{IsFresh}
use Rattle.px_server.specs.Hosted.{HasLent}
use Rattle.px_workers.specs.Working.{Start, start_of, Unworked, IsHonest}
use Rattle.px_server.specs.Mailboxes.{boxes_in}
use Rattle.px_server.specs.Made.{IsMade, AreMade, AddsOne, AddsAll}
use Rattle.px_server.specs.Parts.{sink_for, start_for, starts_from, Adds}
use Rattle.px_server.specs.Taped.{AreTaping}

-- a cell over what was made for a sink has met nothing
pub fresh_honest : {D E : Type 0} (now : D → DeviceState) (visible : E → Option (List LaneEntry)) (faults fulls : E → ℕ) (sink : SinkSpec) (device : D) (recorder : E) (cell : Cell D E)
    → IsFresh sink (now device) (visible recorder) (faults recorder) (fulls recorder)
    → cell.lane ≡ record { sink = sink_for sink; device = device; faults = 0 } → cell.recorder ≡ recorder → IsHonest now faults fulls cell Nothing
fresh_honest {D} {E} now visible faults fulls sink device recorder cell fresh lane same = record {
  sink_fault = (
    subst (λ (m : Mixer D). (now m.device).faults ≡ 0) (sym lane) fresh.going,
    subst (λ (r : E). faults r ≡ 0) (sym same) fresh.ready.0,
    subst (λ (r : E). fulls r ≡ 0) (sym same) fresh.ready.1,
  );
  stopped = λ on. let gone : IsTrue (sink_for sink).stopped = subst (λ (m : Mixer D). IsTrue m.sink.stopped) lane on in search rules;
}

-- the host can take back one less, too
pub lent_fewer : {D R C : Type 0} (n : ℕ) (h : HostState D R C) → HasLent (n + 1) 0 h → HasLent n 0 h
lent_fewer n h lent = fewer h.lent lent where
  fewer : (o : Option Lent) → IfSome o (λ l. (n + 1 ≤ l.devices) × (n + 1 ≤ l.recorders) × (0 ≤ l.cores)) → IfSome o (λ l. (n ≤ l.devices) × (n ≤ l.recorders) × (0 ≤ l.cores))
  fewer None some = tt
  fewer (Some l) some = (omega arith, omega arith, omega arith)

-- as many sinks as before
pub lent_as : {D R C X : Type 0} (idle same : List X) (h : HostState D R C) → same ≡ idle → HasLent (length idle) 0 h → HasLent (length same) 0 h
lent_as {X = X} idle same h is = subst (λ (l : List X). HasLent (length l) 0 h) (sym is)

-- one more
pub lent_more : {D R C X : Type 0} (idle same more : List X) (one : X) (h : HostState D R C) → same ≡ idle → more ≡ same ++ one ∷ [] → HasLent (length idle + 1) 0 h → HasLent (length more) 0 h
lent_more {X = X} idle same more one h is then = subst (λ (n : ℕ). HasLent n 0 h) (sym (ap length then ∙ length-append same (one ∷ []) ∙ ap (λ (l : List X). length l + 1) is))

-- each item of a list by a function, with one more behind it
pub map_one : {X Y : Type 0} (f : X → Y) (idle more : List X) (one : X) (y : Y) → more ≡ idle ++ one ∷ [] → f one ≡ y → map f more ≡ map f idle ++ y ∷ []
map_one f idle more one y then so = ap (map f) then ∙ map-append f idle (one ∷ []) ∙ ap (λ (z : _). map f idle ++ z ∷ []) so

-- one more, and then a front of the others
pub adds_then : (before between after : List Start) (y : Start) (others all : List Start)
    → between ≡ before ++ y ∷ [] → all ≡ y ∷ others → Adds between others after → Adds before all after
adds_then before between after y others all one is adds =
    (y ∷ adds.0, (adds.1.0, is ∙ ap (λ (l : List Start). y ∷ l) adds.1.1), adds.2 ∙ ap (λ (l : List Start). l ++ adds.0) one ∙ append_assoc before (y ∷ []) adds.0)

module _ {D E : Type 0} (taped : Bool) where
  -- what was reserved changes nothing
  pub adds_same : (index : SinkId) (sink : SinkSpec) (idle same more : List (Unworked D E)) (ends same_ends more_ends : List CoreEnd) (one : Unworked D E) (end : CoreEnd)
      → same ≡ idle → same_ends ≡ ends → more ≡ same ++ one ∷ [] → more_ends ≡ same_ends ++ end ∷ [] → IsMade taped index sink one end
      → AddsOne taped index sink idle ends more more_ends
  adds_same index sink idle same more ends same_ends more_ends one end is are then also made =
      (one, end, made, then ∙ ap (λ (l : List (Unworked D E)). l ++ one ∷ []) is, also ∙ ap (λ (l : List CoreEnd). l ++ end ∷ []) are)

  -- for no entry
  pub adds_nothing : (index : ℕ) (sinks : List SinkSpec) (idle : List (Unworked D E)) (ends : List CoreEnd) → sinks ≡ [] → AddsAll taped index sinks idle ends idle ends
  adds_nothing index sinks idle ends none =
      subst (λ (l : List SinkSpec). AddsAll taped index l idle ends idle ends) (sym none) ([], [], (refl, refl), sym (append-nil idle), sym (append-nil ends))

  -- one more, and then the others
  pub adds_all : (index : ℕ) (sink : SinkSpec) (rest sinks : List SinkSpec) (idle between after : List (Unworked D E)) (ends between_ends after_ends : List CoreEnd)
      → sinks ≡ sink ∷ rest → AddsOne taped (record { 0 = index }) sink idle ends between between_ends → AddsAll taped (index + 1) rest between between_ends after after_ends
      → AddsAll taped index sinks idle ends after after_ends
  adds_all index sink rest sinks idle between after ends between_ends after_ends cut one all =
      subst (λ (l : List SinkSpec). AddsAll taped index l idle ends after after_ends) (sym cut) (
        one.0 ∷ all.0,
        one.1 ∷ all.1,
        (one.2, all.2),
        all.3 ∙ ap (λ (l : List (Unworked D E)). l ++ all.0) one.3 ∙ append_assoc idle (one.0 ∷ []) all.0,
        all.4 ∙ ap (λ (l : List CoreEnd). l ++ all.1) one.4 ∙ append_assoc ends (one.1 ∷ []) all.1,
      )

  -- where none were there, they are all
  pub made_all : (sinks : List SinkSpec) (idle more : List (Unworked D E)) (ends more_ends : List CoreEnd) → idle ≡ [] → ends ≡ [] → AddsAll taped 0 sinks idle ends more more_ends
      → AreMade taped 0 sinks more more_ends
  made_all sinks idle more ends more_ends none no_ends adds =
      subst (λ (l : List (Unworked D E)). AreMade taped 0 sinks l more_ends) (sym (adds.3 ∙ ap (λ (l : List (Unworked D E)). l ++ adds.0) none))
      (subst (AreMade taped 0 sinks adds.0) (sym (adds.4 ∙ ap (λ (l : List CoreEnd). l ++ adds.1) no_ends)) adds.2)

  -- how they begin
  pub starts_made : (index : ℕ) (sinks : List SinkSpec) (idle : List (Unworked D E)) (ends : List CoreEnd) → AreMade taped index sinks idle ends → map start_of idle ≡ starts_from index sinks
  starts_made index [] idle ends made = ap (map start_of) made.0
  starts_made index (s ∷ sinks) [] ends made = absurd made
  starts_made index (s ∷ sinks) (one ∷ idle) [] made = absurd made
  starts_made index (s ∷ sinks) (one ∷ idle) (end ∷ ends) made =
      ap (λ (x : Start). x ∷ map start_of idle) made.0.start ∙ ap (λ (l : List Start). start_for (record { 0 = index }) s ∷ l) (starts_made (index + 1) sinks idle ends made.1)

  -- what the core's ends are
  pub ends_made : (index : ℕ) (sinks : List SinkSpec) (idle : List (Unworked D E)) (ends : List CoreEnd) → AreMade taped index sinks idle ends → map ends_of ends ≡ map fresh_ends sinks
  ends_made index [] idle ends made = ap (map ends_of) made.1
  ends_made index (s ∷ sinks) [] ends made = absurd made
  ends_made index (s ∷ sinks) (one ∷ idle) [] made = absurd made
  ends_made index (s ∷ sinks) (one ∷ idle) (end ∷ ends) made =
      ap (λ (x : _). x ∷ map ends_of ends) made.0.fresh ∙ ap (λ (l : List _). fresh_ends s ∷ l) (ends_made (index + 1) sinks idle ends made.1)

  -- both sides have the same mailboxes
  pub boxes_made : (index : ℕ) (sinks : List SinkSpec) (idle : List (Unworked D E)) (ends : List CoreEnd) → AreMade taped index sinks idle ends → map boxes_in idle ≡ map boxes_of ends
  boxes_made index [] idle ends made = ap (map boxes_in) made.0 ∙ sym (ap (map boxes_of) made.1)
  boxes_made index (s ∷ sinks) [] ends made = absurd made
  boxes_made index (s ∷ sinks) (one ∷ idle) [] made = absurd made
  boxes_made index (s ∷ sinks) (one ∷ idle) (end ∷ ends) made =
      ap (λ (b : Boxes). b ∷ map boxes_in idle) made.0.boxes ∙ ap (λ (l : List Boxes). boxes_of end ∷ l) (boxes_made (index + 1) sinks idle ends made.1)

  -- with a tape all keep their turns
  pub taping_made : (index : ℕ) (sinks : List SinkSpec) (idle : List (Unworked D E)) (ends : List CoreEnd) → taped ≡ true → AreMade taped index sinks idle ends → AreTaping idle
  taping_made index [] idle ends on made = subst AreTaping (sym made.0) tt
  taping_made index (s ∷ sinks) [] ends on made = absurd made
  taping_made index (s ∷ sinks) (one ∷ idle) [] on made = absurd made
  taping_made index (s ∷ sinks) (one ∷ idle) (end ∷ ends) on made = (made.0.tapes ∙ on, taping_made (index + 1) sinks idle ends on made.1)
