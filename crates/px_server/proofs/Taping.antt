-- The turns that sinks keep for a tape, and how many there are.
use Rattle.std.proofs.Common.{◌≡◌, ◌⊎◌, ℕ, ◌+◌, List, [], ◌∷◌, ◌++◌, ◌<◌, ◌≤◌, cond, nat_eq, length, append-nil, drop, map, Option, None, Some, IfSome, IsSome, Bool, true, false, inl, inr, refl, sym, subst, ap, ◌∙◌, arith, rules}
use Rattle.std.specs.Bool.{⊤}
use Rattle.std.specs.List.{AllByRecursion}
use Rattle.std.specs.Option.{is_some}
use Rattle.std.proofs.lemmas.Bool.{eq-eqb, ne_eqb}
use Rattle.std.proofs.lemmas.List.{length-map}
use Rattle.px_types.specs.declared.ids.SinkId.{SinkId}
use Rattle.px_types.specs.declared.status.Status.{Status}
use Rattle.px_types.specs.declared.status.Status.TheVariants as status
use Rattle.px_annals.specs.declared.entry.LaneEntry.{LaneEntry}
use Rattle.px_annals.specs.declared.recorder.RecordFault.{RecordFault}
use Rattle.px_annals.specs.declared.recorder.RecordFault.TheVariants as record_fault
use Rattle.px_annals.specs.declared.entry.CoreEntry.{CoreEntry}
use Rattle.px_annals.specs.declared.stream.PlainStream.{PlainStream}
use Rattle.px_ends.specs.Device.{DeviceState}
use Rattle.px_header.specs.declared.header.SinkSpec.{SinkSpec}
use Rattle.px_state.specs.State.{State}
use Rattle.px_ends.specs.Host.{HostState}
use Rattle.px_session.specs.declared.event.Event.{Event}
use Rattle.px_server.specs.declared.served.LanePart.{LanePart}
use Rattle.px_workers.specs.declared.stop.Stop.{Stop}
use Rattle.px_workers.specs.declared.stop.Stop.TheVariants as stops
use Rattle.px_server.specs.Causes.{decided, undecided, recorded}
use Rattle.px_workers.specs.Hosted.{IsCauseOf}
use Rattle.px_server.specs.Taped.{AreTaping, AreTurnsOf, added, entries_in, AreCounted, IsOnTape, AreOnTape, HasTape}
use Rattle.px_server.specs.Parts.{AreParts, unworked, starts_from}
use Rattle.px_workers.specs.Working.{Unworked, Start, start_of, made_by, AreTaped, tapes_in}
use Rattle.px_tape.specs.declared.turns.Turn.{Turn as Made}
use Rattle.px_tape.specs.Tape.{Turns, turns_in, total, at_sink, events_of, events_in, events_at}

-- ---- several sinks

abbrev AreOn : List Bool → Type 0
AreOn ons = AllByRecursion (λ on. on ≡ true) ons

-- sinks keep theirs where they did before
pub taping_since : {D E : Type 0} (idle last : List (Unworked D E)) → map tapes_in last ≡ map tapes_in idle → AreTaping idle → AreTaping last
taping_since idle last same all = subst AreOn (sym same) all

pub taping_first : {D E : Type 0} (left rest : List (Unworked D E)) (one : Unworked D E) → left ≡ one ∷ rest → AreTaping left → (is_some one.turns ≡ true) × AreTaping rest
taping_first left rest one front all = subst AreTaping front all

-- ---- the turns of several sinks

-- the sinks of these parts have the indices from `index` on
abbrev pub AreNumbered : {D R : Type 0} → ℕ → List (LanePart D R) → Type 0
AreNumbered index [] = ⊤
AreNumbered index (part ∷ parts) = (part.sink.0 ≡ index) × AreNumbered (index + 1) parts

-- only what no link comes to any more is fine
fine_over : (stop : Stop) (fault : Option RecordFault) (sink_fault : Option Status) → decided stop fault sink_fault ≡ status.Ok → stop ≡ stops.Over
fine_over stops.Over fault sink_fault fine = refl
fine_over stops.Memory fault sink_fault fine = absurd (never fine) where
  never : status.Memory ≡ status.Ok → ⊥
  never is = search rules
fine_over stops.Host fault sink_fault fine = absurd (never fine) where
  never : status.Host ≡ status.Ok → ⊥
  never is = search rules
fine_over (stops.Unrecorded why) fault sink_fault fine = absurd (never fault fine) where
  never : (fault : Option RecordFault) → recorded fault ≡ status.Ok → ⊥
  never None is = search rules
  never (Some record_fault.NoMemory) is = search rules
  never (Some (record_fault.Full entries bytes)) is = search rules
  never (Some record_fault.Failed) is = search rules

-- one sink more in the number of the entries
counted_first : (first : Option (List LaneEntry)) (others : Option ℕ) (turns : List Made) (count : ℕ) → IfSome first (λ entries. turns ≡ map made_by entries) → IfSome others (λ n. count ≡ n)
    → IfSome (added first others) (λ n. length turns + count ≡ n)
counted_first None others turns count here rest = tt
counted_first (Some entries) None turns count here rest = tt
counted_first (Some entries) (Some n) turns count here rest = let same = ap length here in omega (arith, same, length-map entries made_by, rest)

module _ {D R : Type 0} (visible : R → Option (List LaneEntry)) where
  -- ---- each sink has its turns

  pub turns_none : (parts : List (LanePart D R)) (turns : List Turns) → parts ≡ [] → turns ≡ [] → AreTurnsOf visible parts turns
  turns_none parts turns none empty = subst (λ (p : List (LanePart D R)). AreTurnsOf visible p turns) (sym none) (subst (λ (t : List Turns). AreTurnsOf {D = D} visible [] t) (sym empty) tt)

  more_turns : (parts : List (LanePart D R)) (turns : List Turns) (part : LanePart D R) (t : Turns) → AreTaped visible part.sink part.recorder (Some t) → AreTurnsOf visible parts turns
      → AreTurnsOf visible (parts ++ part ∷ []) (turns ++ t ∷ [])
  more_turns [] [] part t one all = (one, tt)
  more_turns [] (u ∷ turns) part t one all = absurd all
  more_turns (p ∷ parts) [] part t one all = absurd all
  more_turns (p ∷ parts) (u ∷ turns) part t one all = (all.0, more_turns parts turns part t one all.1)

  -- one sink more
  pub turns_one : (parts next : List (LanePart D R)) (part : LanePart D R) (turns after : List Turns) (sink : SinkId) (recorder : R) (made : Option Turns)
      → next ≡ parts ++ part ∷ [] → part.sink ≡ sink → part.recorder ≡ recorder → is_some made ≡ true → AreTaped visible sink recorder made → IfSome made (λ t. after ≡ turns ++ t ∷ [])
      → AreTurnsOf visible parts turns → AreTurnsOf visible next after
  turns_one parts next part turns after sink recorder None more own same on taped held all = absurd (off on) where
    off : false ≡ true → ⊥
    off is = search rules
  turns_one parts next part turns after sink recorder (Some t) more own same on taped held all =
      let here : AreTaped visible part.sink part.recorder (Some t) = subst (λ (s : SinkId). AreTaped visible s part.recorder (Some t)) (sym own) (subst (λ (r : R). AreTaped visible sink r (Some t)) (sym same) taped) in
      subst (λ (p : List (LanePart D R)). AreTurnsOf visible p after) (sym more) (subst (AreTurnsOf visible (parts ++ part ∷ [])) (sym held) (more_turns parts turns part t here all))

  -- ---- how many there are

  pub turns_counted : (parts : List (LanePart D R)) (turns : List Turns) → AreTurnsOf visible parts turns → AreCounted visible parts (total turns)
  turns_counted [] [] all = refl
  turns_counted [] (t ∷ turns) all = absurd all
  turns_counted (part ∷ parts) [] all = absurd all
  turns_counted (part ∷ parts) (t ∷ turns) all =
      counted_first (visible part.recorder) (entries_in visible parts) t.turns (total turns) all.0.2 (turns_counted parts turns all.1)

  -- ---- which they are

  -- no sink of these has an index below theirs
  none_below : (index at : ℕ) (parts : List (LanePart D R)) (turns : List Turns) → AreTurnsOf visible parts turns → AreNumbered index parts → at < index → events_at at turns ≡ []
  none_below index at [] [] all numbered below = refl
  none_below index at [] (t ∷ turns) all numbered below = absurd all
  none_below index at (part ∷ parts) [] all numbered below = absurd all
  none_below index at (part ∷ parts) (t ∷ turns) all numbered below =
      let is = all.0.0 ∙ numbered.0 in
      ap (λ (b : Bool). cond b (events_in t) [] ++ events_at at turns) (ne_eqb t.sink at (λ same. omega (arith, is, same, below))) ∙ none_below (index + 1) at parts turns all.1 numbered.1 (omega (arith, below))

  is_on : (part : LanePart D R) (t : Turns) (rest events : List Event) → AreTaped visible part.sink part.recorder (Some t) → rest ≡ []
      → at_sink part.sink.0 events ≡ cond (nat_eq t.sink part.sink.0) (events_in t) [] ++ rest → IsOnTape visible events part
  is_on part t rest events taped none there = on (visible part.recorder) taped.2 where
    here : at_sink part.sink.0 events ≡ events_of part.sink.0 false t.turns
    here =
        there
        ∙ ap (λ (l : List Event). cond (nat_eq t.sink part.sink.0) (events_in t) [] ++ l) none
        ∙ append-nil (cond (nat_eq t.sink part.sink.0) (events_in t) [])
        ∙ ap (λ (b : Bool). cond b (events_in t) []) (eq-eqb t.sink part.sink.0 taped.0)
        ∙ ap (λ (s : ℕ). events_of s t.failed t.turns) taped.0
        ∙ ap (λ (b : Bool). events_of part.sink.0 b t.turns) taped.1

    on : (o : Option (List LaneEntry)) → IfSome o (λ entries. t.turns ≡ map made_by entries) → IfSome o (λ entries. at_sink part.sink.0 events ≡ events_of part.sink.0 false (map made_by entries))
    on None same = tt
    on (Some entries) same = here ∙ ap (events_of part.sink.0 false) same

  pub are_on : (index : ℕ) (parts : List (LanePart D R)) (turns : List Turns) (events : List Event) → AreTurnsOf visible parts turns → AreNumbered index parts
      → ((at : ℕ) → index ≤ at → at_sink at events ≡ events_at at turns) → AreOnTape visible parts events
  are_on index [] turns events all numbered there = tt
  are_on index (part ∷ parts) [] events all numbered there = absurd all
  are_on index (part ∷ parts) (t ∷ turns) events all numbered there =
      let is = all.0.0 ∙ numbered.0 in (
        is_on part t (events_at part.sink.0 turns) events all.0 (none_below (index + 1) part.sink.0 parts turns all.1 numbered.1 (omega (arith, numbered.0))) (there part.sink.0 (omega (arith, numbered.0))),
        are_on (index + 1) parts turns events all.1 numbered.1 (λ at above.
            there at (omega (arith, above)) ∙ ap (λ (b : Bool). cond b (events_in t) [] ++ events_at at turns) (ne_eqb t.sink at (λ same. omega (arith, is, same, above)))),
      )

  -- ---- what is handed back

  pub untaped : (taped : Bool) (answered : Status) (parts : List (LanePart D R)) (tape : Option (List Event)) (stop : Stop) → answered ≡ undecided stop → tape ≡ None
      → HasTape visible taped answered parts tape
  untaped taped answered parts tape stop is none = subst (λ (o : Option (List Event)). HasTape visible taped answered parts o) (sym none) (record {
    none = λ off. refl;
    turns = tt;
    sinks = tt;
    whole = λ on fine. absurd (not_fine stop (sym is ∙ fine));
  }) where
    not_fine : (s : Stop) → undecided s ≡ status.Ok → ⊥
    not_fine stops.Over fine = search rules
    not_fine stops.Memory fine = search rules
    not_fine stops.Host fine = search rules
    not_fine (stops.Unrecorded why) fine = search rules

  counts : (parts : List (LanePart D R)) (count : ℕ) (tape : Option (List Event)) → AreCounted visible parts count → IfSome tape (λ events. turns_in events ≡ count)
      → IfSome tape (λ events. AreCounted visible parts (turns_in events))
  counts parts count None are woven = tt
  counts parts count (Some events) are woven = subst (AreCounted visible parts) (sym woven) are

  on_tape : (parts : List (LanePart D R)) (turns : List Turns) (tape : Option (List Event)) → AreTurnsOf visible parts turns → AreNumbered 0 parts
      → IfSome tape (λ events. (at : ℕ) → at_sink at events ≡ events_at at turns) → IfSome tape (AreOnTape visible parts)
  on_tape parts turns None all numbered woven = tt
  on_tape parts turns (Some events) all numbered woven = are_on 0 parts turns events all numbered (λ at above. woven at)

  pub tape_is : (taped : Bool) (idle : List (Unworked D R)) (turns : List Turns) (parts : List (LanePart D R)) (tape : Option (List Event))
      (stop : Stop) (fault : Option RecordFault) (sink_fault : Option Status) (answered : Status)
      → (taped ≡ true → AreTaping idle) → (AreTaping idle → AreTurnsOf visible parts turns) → AreNumbered 0 parts
      → (taped ≡ false → tape ≡ None) → IfSome tape (λ events. turns_in events ≡ total turns) → IfSome tape (λ events. (at : ℕ) → at_sink at events ≡ events_at at turns)
      → (taped ≡ true → stop ≡ stops.Over → IsSome tape) → answered ≡ decided stop fault sink_fault
      → HasTape visible taped answered parts tape
  tape_is false idle turns parts tape stop fault sink_fault answered taping made numbered none counted woven whole is = record {
    none = none;
    turns = subst (λ (o : Option (List Event)). IfSome o (λ events. AreCounted visible parts (turns_in events))) (sym (none refl)) tt;
    sinks = subst (λ (o : Option (List Event)). IfSome o (AreOnTape visible parts)) (sym (none refl)) tt;
    whole = λ on. absurd (off on);
  } where
    off : false ≡ true → ⊥
    off is = search rules
  tape_is true idle turns parts tape stop fault sink_fault answered taping made numbered none counted woven whole is = record {
    none = none;
    turns = counts parts (total turns) tape (turns_counted parts turns (made (taping refl))) counted;
    sinks = on_tape parts turns tape (made (taping refl)) numbered woven;
    whole = λ on fine. whole on (fine_over stop fault sink_fault (sym is ∙ fine));
  }

-- the sinks of a call's parts have the indices of the header's entries
pub numbered : {D R : Type 0} (began : State PlainStream) (core : Option (List CoreEntry)) (now : D → DeviceState) (visible : R → Option (List LaneEntry)) (faults fulls : R → ℕ)
    (index : ℕ) (sinks : List SinkSpec) (idle : List (Unworked D R)) (parts : List (LanePart D R))
    → AreParts began core now visible faults fulls (map unworked idle) parts → map start_of idle ≡ starts_from index sinks → AreNumbered index parts
numbered began core now visible faults fulls index sinks idle [] all starts = tt
numbered began core now visible faults fulls index sinks [] (part ∷ parts) all starts = absurd all
numbered began core now visible faults fulls index [] (one ∷ idle) (part ∷ parts) all starts = absurd (never starts) where
  never : start_of one ∷ map start_of idle ≡ [] → ⊥
  never is = search rules
numbered began core now visible faults fulls index (s ∷ sinks) (one ∷ idle) (part ∷ parts) all starts = (
  ap (λ (id : SinkId). id.0) all.0.sink ∙ ap (λ (l : List Start). first_index l) starts,
  numbered began core now visible faults fulls (index + 1) sinks idle parts all.1 (ap (λ (l : List Start). drop 1 l) starts),
) where
  first_index : List Start → ℕ
  first_index [] = 0
  first_index (start ∷ others) = start.index.0

-- a call that stops for want of memory where nothing else has stopped it
pub cause_stays : {D R C : Type 0} (before after : HostState D R C) (stop then : Stop) → (then ≡ stop) ⊎ ((stop ≡ stops.Over) × (then ≡ stops.Memory))
    → IsCauseOf stop before after → IsCauseOf then before after
cause_stays before after stop then (inl same) cause = subst (λ (s : Stop). IsCauseOf s before after) (sym same) cause
cause_stays before after stop then (inr memory) cause = subst (λ (s : Stop). IsCauseOf s before after) (sym memory.1) tt
