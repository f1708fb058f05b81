-- What a serving call hands back of its tape.
use Rattle.std.specs.Prelude.{◌≡◌, ℕ, ◌+◌, Bool, true, false, List, [], ◌∷◌, length, map, Option, None, Some, IfSome, IsSome, ⊤}
use Rattle.std.specs.List.{AllByRecursion}
use Rattle.px_types.specs.declared.status.Status.{Status}
use Rattle.px_types.specs.declared.status.Status.TheVariants as status
use Rattle.px_annals.specs.declared.entry.LaneEntry.{LaneEntry}
use Rattle.px_session.specs.declared.event.Event.{Event}
use Rattle.px_server.specs.declared.served.LanePart.{LanePart}
use Rattle.px_workers.specs.Working.{Unworked, tapes_in, made_by, AreTaped}
use Rattle.px_tape.specs.Tape.{Turns, turns_in, at_sink, events_of}

-- all sinks record their turns for a tape
abbrev pub AreTaping : {D E : Type 0} → List (Unworked D E) → Type 0
AreTaping idle = AllByRecursion (λ on. on ≡ true) (map tapes_in idle)

-- the turns of each sink, in the order of the parts
abbrev pub AreTurnsOf : {D R : Type 0} → (R → Option (List LaneEntry)) → List (LanePart D R) → List Turns → Type 0
AreTurnsOf visible [] [] = ⊤
AreTurnsOf visible [] (t ∷ turns) = ⊥
AreTurnsOf visible (part ∷ parts) [] = ⊥
AreTurnsOf visible (part ∷ parts) (t ∷ turns) = AreTaped visible part.sink part.recorder (Some t) × AreTurnsOf visible parts turns

-- the number of entries with one more list, where all are visible
abbrev pub added : Option (List LaneEntry) → Option ℕ → Option ℕ
added None total = None
added (Some entries) None = None
added (Some entries) (Some total) = Some (length entries + total)

module _ {D R : Type 0} (visible : R → Option (List LaneEntry)) where
  -- the number of entries in all recorders of the sinks, where all of them are visible
  abbrev pub entries_in : List (LanePart D R) → Option ℕ
  entries_in [] = Some 0
  entries_in (part ∷ parts) = added (visible part.recorder) (entries_in parts)

  -- that number, where it is visible, is `count`
  abbrev pub AreCounted : List (LanePart D R) → ℕ → Type 0
  AreCounted parts count = IfSome (entries_in parts) (λ entries. count ≡ entries)

  -- the turns and stops of a sink among the events of a tape are those of its recorder's entries, where these are visible: a turn for each, and a stop
  -- before the first in which its device failed
  abbrev pub IsOnTape : List Event → LanePart D R → Type 0
  IsOnTape events part = IfSome (visible part.recorder) (λ entries. at_sink part.sink.0 events ≡ events_of part.sink.0 false (map made_by entries))

  abbrev pub AreOnTape : List (LanePart D R) → List Event → Type 0
  AreOnTape parts events = AllByRecursion (IsOnTape events) parts

  -- the events of the tape, where there is one: the number of turns among them is that of all entries in the sinks' recorders, where these are
  -- visible, and the turns and stops of each sink are those of its recorder's entries; with status Ok the events are there
  pub record HasTape (taped : Bool) (answered : Status) (parts : List (LanePart D R)) (tape : Option (List Event)) : Type 0 where
    pub none : taped ≡ false → tape ≡ None
    pub turns : IfSome tape (λ events. AreCounted parts (turns_in events))
    pub sinks : IfSome tape (AreOnTape parts)
    pub whole : taped ≡ true → answered ≡ status.Ok → IsSome tape
