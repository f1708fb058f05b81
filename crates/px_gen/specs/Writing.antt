-- What a call that writes a part of a session leaves.
use Rattle.std.specs.Prelude.{◌≡◌, ℕ, List, ◌++◌, Option, Result, Ok, Err}
use Rattle.px_types.specs.declared.status.Status.{Status}
use Rattle.px_types.specs.declared.status.Status.TheVariants as status
use Rattle.px_types.specs.Faults.{Rose}
use Rattle.px_ends.specs.Visible.{after_adding}
use Rattle.px_ends.specs.Whole.{AddsFront}
use Rattle.px_gen.specs.declared.writing.Stop.{Stop}
use Rattle.px_gen.specs.declared.writing.Stop.TheVariants as stop

-- all bytes were appended to the visible ones, or a front of them
abbrev pub Writes : {A : Type 0} → Result A Stop → List ℕ → Option (List ℕ) → Option (List ℕ) → Type 0
Writes (Ok done) bytes before now = now ≡ after_adding before bytes
Writes (Err e) bytes before now = AddsFront bytes before now

-- the count of failed writes rose where the call stopped for that, and nowhere else
abbrev pub Counts : {A : Type 0} → Result A Stop → ℕ → ℕ → Type 0
Counts (Ok done) before now = now ≡ before
Counts (Err stop.NoMemory) before now = now ≡ before
Counts (Err stop.Failed) before now = Rose before now

-- a front of `given` was appended to the first visible bytes, and the rest waits
pub record Gathered (given : List ℕ) (first now : Option (List ℕ)) (waiting : List ℕ) : Type 0 where
  pub front : List ℕ
  pub joined : given ≡ front ++ waiting
  pub held : now ≡ after_adding first front

-- the same, where all bytes or a part of them were given; or a write failed, and a front of them was appended
abbrev pub GatheredBy : {A : Type 0} → Result A Stop → List ℕ → Option (List ℕ) → Option (List ℕ) → List ℕ → Type 0
GatheredBy (Ok done) given first now waiting = Gathered given first now waiting
GatheredBy (Err stop.NoMemory) given first now waiting = (part : List ℕ) × (rest : List ℕ) × (given ≡ part ++ rest) × Gathered part first now waiting
GatheredBy (Err stop.Failed) given first now waiting = AddsFront given first now

-- the same by a status; there is no other
abbrev pub Leaves : Status → List ℕ → Option (List ℕ) → Option (List ℕ) → Type 0
Leaves status.Ok bytes before now = now ≡ after_adding before bytes
Leaves status.Memory bytes before now = AddsFront bytes before now
Leaves status.WriteFault bytes before now = AddsFront bytes before now
Leaves other bytes before now = ⊥

abbrev pub Faults : Status → ℕ → ℕ → Type 0
Faults status.WriteFault before now = Rose before now
Faults other before now = now ≡ before
