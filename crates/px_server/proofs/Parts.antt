-- What is left of sinks, one by one.
use Rattle.std.proofs.Common.{◌≡◌, ℕ, suc, List, [], ◌∷◌, ◌++◌, length, map, Option, None, Some, IfSome, sym, subst, ◌∙◌, ap, refl}
use Rattle.std.proofs.lemmas.List.{append_assoc, append-nil}
use Rattle.std.specs.Option.{option_or}
use Rattle.px_types.specs.declared.ids.SinkId.{SinkId}
use Rattle.px_types.specs.declared.status.Status.{Status}
use Rattle.px_annals.specs.declared.entry.CoreEntry.{CoreEntry}
use Rattle.px_annals.specs.declared.entry.LaneEntry.{LaneEntry}
use Rattle.px_annals.specs.declared.stream.PlainStream.{PlainStream}
use Rattle.px_ends.specs.Device.{DeviceState}
use Rattle.px_model.specs.Sink.{Sink}
use Rattle.px_state.specs.State.{State}
use Rattle.px_server.specs.declared.served.LanePart.{LanePart}
use Rattle.px_server.specs.Causes.{status_of_fault}
use Rattle.px_server.specs.Delivered.{IsDelivered}
use Rattle.px_workers.specs.Working.{Start, start_of, Unworked}
use Rattle.px_server.specs.Parts.{Worked, IsPart, AreParts, Adds, unworked}
use Rattle.px_server.specs.Serving.{first_met}

module _ {D R : Type 0} (began : State PlainStream) (core : Option (List CoreEntry)) (now : D → DeviceState) (visible : R → Option (List LaneEntry)) (faults fulls : R → ℕ) where
  -- what is left of a sink without a core, and what the core's entries say of it
  pub part_agreed : (work : Worked) (part : LanePart D R) → IsPart began None now visible faults fulls work part
      → IfSome core (λ entries. IfSome (visible part.recorder) (IsDelivered began entries work.start.index work.start.sink)) → IsPart began core now visible faults fulls work part
  part_agreed work part p delivered = record { sink = p.sink; played = p.played; delivered = delivered; sink_fault = p.sink_fault }

  -- one more
  pub parts_more : (works : List Worked) (parts : List (LanePart D R)) (work : Worked) (part : LanePart D R)
      → AreParts began core now visible faults fulls works parts → IsPart began core now visible faults fulls work part
      → AreParts began core now visible faults fulls (works ++ work ∷ []) (parts ++ part ∷ [])
  parts_more [] [] work part all one = (one, tt)
  parts_more [] (p ∷ parts) work part all one = absurd all
  parts_more (w ∷ works) [] work part all one = absurd all
  parts_more (w ∷ works) (p ∷ parts) work part all one = (all.0, parts_more works parts work part all.1 one)

  -- as many are left as there were
  pub parts_count : (works : List Worked) (parts : List (LanePart D R)) → AreParts began core now visible faults fulls works parts → length parts ≡ length works
  parts_count [] [] all = refl
  parts_count [] (p ∷ parts) all = absurd all
  parts_count (w ∷ works) [] all = absurd all
  parts_count (w ∷ works) (p ∷ parts) all = ap suc (parts_count works parts all.1)

  -- what is left of some of the sinks is there, and the others are to come
  pub record Handed (all left : List (Unworked D R)) (lanes : List (LanePart D R)) : Type 0 where
    pub done : List Worked
    pub whole : done ++ map unworked left ≡ map unworked all
    pub parts : AreParts began core now visible faults fulls done lanes

  pub handed_none : (all : List (Unworked D R)) (lanes : List (LanePart D R)) → lanes ≡ [] → Handed all all lanes
  handed_none all lanes none = record { done = []; whole = refl; parts = subst (AreParts began core now visible faults fulls []) (sym none) tt }

  pub handed_one : (all left rest : List (Unworked D R)) (one : Unworked D R) (lanes next : List (LanePart D R)) (part : LanePart D R)
      → left ≡ one ∷ rest → next ≡ lanes ++ part ∷ [] → IsPart began core now visible faults fulls (unworked one) part
      → Handed all left lanes → Handed all rest next
  handed_one all left rest one lanes next part front more is h = record {
    done = h.done ++ unworked one ∷ [];
    whole = append_assoc h.done (unworked one ∷ []) (map unworked rest) ∙ ap (λ (l : List (Unworked D R)). h.done ++ map unworked l) (sym front) ∙ h.whole;
    parts = subst (AreParts began core now visible faults fulls (h.done ++ unworked one ∷ [])) (sym more) (parts_more h.done lanes (unworked one) part h.parts is);
  }

  pub handed_all : (all left : List (Unworked D R)) (lanes : List (LanePart D R)) → left ≡ [] → Handed all left lanes
      → AreParts began core now visible faults fulls (map unworked all) lanes
  handed_all all left lanes none h =
      subst (λ (l : List Worked). AreParts began core now visible faults fulls l lanes)
      (sym (append-nil h.done) ∙ ap (λ (l : List (Unworked D R)). h.done ++ map unworked l) (sym none) ∙ h.whole) h.parts

pub or_none : (a : Option Status) → option_or a None ≡ a
or_none None = refl
or_none (Some a) = refl

pub or_or : (a b c : Option Status) → option_or (option_or a b) c ≡ option_or a (option_or b c)
or_or None b c = refl
or_or (Some a) b c = refl

-- what was met so far, and then what the others met
pub met_one : {D E : Type 0} (first then : Option Status) (left rest all : List (Unworked D E)) (one : Unworked D E)
    → left ≡ one ∷ rest → then ≡ option_or first (status_of_fault one.sink_fault) → option_or first (first_met (map unworked left)) ≡ first_met (map unworked all)
    → option_or then (first_met (map unworked rest)) ≡ first_met (map unworked all)
met_one first then left rest all one front or so =
    ap (λ (o : Option Status). option_or o (first_met (map unworked rest))) or
    ∙ or_or first (status_of_fault one.sink_fault) (first_met (map unworked rest))
    ∙ ap (λ (l : List _). option_or first (first_met (map unworked l))) (sym front)
    ∙ so

pub met_all : {D E : Type 0} (first : Option Status) (left all : List (Unworked D E))
    → left ≡ [] → option_or first (first_met (map unworked left)) ≡ first_met (map unworked all) → first ≡ first_met (map unworked all)
met_all first left all none so = sym (or_none first) ∙ ap (λ (l : List _). option_or first (first_met (map unworked l))) (sym none) ∙ so

-- none came
pub adds_none : {X : Type 0} (f : X → Start) (before after : List X) (more : List Start) → after ≡ before → Adds (map f before) more (map f after)
adds_none f before after more same = ([], (more, refl), ap (map f) same ∙ sym (append-nil (map f before)))

abbrev pub begun : SinkId → Sink → Start
begun index sink = record { index = index; sink = sink }

pub starts_unworked : {D E : Type 0} (idle : List (Unworked D E)) → map (λ w. Worked.start w) (map unworked idle) ≡ map start_of idle
starts_unworked [] = refl
starts_unworked (l ∷ idle) = ap (λ (all : List Start). start_of l ∷ all) (starts_unworked idle)
