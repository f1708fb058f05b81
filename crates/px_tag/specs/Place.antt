-- A place in a packet, and what a reader's call answers from there.
use Rattle.std.specs.Prelude.{◌≡◌, ℕ, ◌-◌, List, length, drop, Result, Ok, Err}
use Rattle.px_tag.specs.declared.fault.TagFault.{TagFault}
use Rattle.px_tag.specs.declared.fault.ListFault.{ListFault}
use Rattle.px_tag.specs.declared.fault.ListFault.TheVariants.{Tag, NoMemory}

-- how many bytes the packet has, and those of them that are left
pub record Place : Type 0 where
  pub size : ℕ
  pub rest : List ℕ

-- the place before a packet's first byte
abbrev pub start_of : List ℕ → Place
start_of packet = record { size = length packet; rest = packet }

-- the offset of the first byte that is left
abbrev pub offset_of : Place → ℕ
offset_of place = place.size - length place.rest

-- the place after the next n bytes
abbrev pub past : ℕ → Place → Place
past n place = record { size = place.size; rest = drop n place.rest }

-- What is read at a place: a value and the place after it, or the first fault.
abbrev pub Reading : Type 0 → Type 0
Reading A = Place → Result (A × Place) TagFault

infixl 10 ◌>>=◌
abbrev pub ◌>>=◌ : {A B : Type 0} → Result A TagFault → (A → Result B TagFault) → Result B TagFault
(Ok x) >>= f = f x
(Err fault) >>= f = Err fault

-- A function answered what is read, its value seen by view.
abbrev pub Gives : {X Y : Type 0} → (X → Y) → Result X TagFault → Result Y TagFault → Type 0
Gives view (Ok x) read = read ≡ Ok (view x)
Gives view (Err fault) read = read ≡ Err fault

-- A call of a reader answered what is read from the place where the reader was: the value, with the reader past it, or the fault, with the
-- reader where it was.
abbrev pub Reads : {X Y : Type 0} → (X → Y) → Result X TagFault → Place → Place → Result (Y × Place) TagFault → Type 0
Reads view (Ok x) before after read = read ≡ Ok (view x, after)
Reads view (Err fault) before after read = (read ≡ Err fault) × (after ≡ before)

-- The same for a call that takes memory: without memory the reader is where it was.
abbrev pub GivesList : {X Y : Type 0} → (X → Y) → Result X ListFault → Result Y TagFault → Type 0
GivesList view (Ok x) read = read ≡ Ok (view x)
GivesList view (Err (Tag fault)) read = read ≡ Err fault
GivesList view (Err NoMemory) read = Unit {0}

abbrev pub ReadsList : {X Y : Type 0} → (X → Y) → Result X ListFault → Place → Place → Result (Y × Place) TagFault → Type 0
ReadsList view (Ok x) before after read = read ≡ Ok (view x, after)
ReadsList view (Err (Tag fault)) before after read = (read ≡ Err fault) × (after ≡ before)
ReadsList view (Err NoMemory) before after read = after ≡ before
