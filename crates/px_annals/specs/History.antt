-- A history: the entries that a recorder holds, in order, and when it is full.
use Rattle.std.specs.Prelude.{◌≡◌, ℕ, ◌-◌, ◌^◌, min, Bool, true, false, ◌||◌, nat_le, List, [], ◌∷◌, ◌++◌, map, length, Option, None, Some, Result, Ok, Err, ⊤}
use Rattle.std.specs.List.{sum}
use Rattle.px_annals.specs.declared.recorder.RecordFault.{RecordFault}
use Rattle.px_annals.specs.declared.recorder.RecordFault.TheVariants.{NoMemory, Full, Failed}
use Rattle.px_types.specs.Faults.{Rose}

-- ---- how much is held

-- a number of entries and a number of bytes: what is held, or the most that may be
pub record Limit : Type 0 where
  pub entries : ℕ
  pub bytes : ℕ

-- the sizes of entries, by a measure
abbrev pub sizes_by : {E : Type 0} → (E → ℕ) → List E → List ℕ
sizes_by size entries = map size entries

-- the sum of sizes, at most 2 ^ 64 - 1
abbrev pub sum_of : List ℕ → ℕ
sum_of sizes = min (sum sizes) (2 ^ 64 - 1)

abbrev pub held_of : List ℕ → Limit
held_of sizes = record { entries = length sizes; bytes = sum_of sizes }

-- the entries or the bytes that are held reach the limit
abbrev pub is_full : Limit → Limit → Bool
is_full limit held = nat_le limit.entries held.entries || nat_le limit.bytes held.bytes

-- ---- the answers of a recorder to `ready`

-- a recorder with this limit and these contents answers Full exactly where it is full, with what it holds
abbrev pub SaysHeld : {A : Type 0} → Result A RecordFault → Limit → Limit → Type 0
SaysHeld (Ok answer) limit held = is_full limit held ≡ false
SaysHeld (Err NoMemory) limit held = is_full limit held ≡ false
SaysHeld (Err (Full entries bytes)) limit held = (is_full limit held ≡ true) × (entries ≡ held.entries) × (bytes ≡ held.bytes)
SaysHeld (Err Failed) limit held = is_full limit held ≡ false

-- the same, where the contents are visible and limited
abbrev pub SaysFull : {A : Type 0} → Result A RecordFault → Option Limit → Option (List ℕ) → Type 0
SaysFull answer None sizes = ⊤
SaysFull answer (Some limit) None = ⊤
SaysFull answer (Some limit) (Some sizes) = SaysHeld answer limit (held_of sizes)

-- each count rises in a call with its answer, and in no other
abbrev pub ReadyCounts : {A : Type 0} → Result A RecordFault → ℕ → ℕ → ℕ → ℕ → Type 0
ReadyCounts (Ok answer) faults faults' fulls fulls' = (faults' ≡ faults) × (fulls' ≡ fulls)
ReadyCounts (Err NoMemory) faults faults' fulls fulls' = (faults' ≡ faults) × (fulls' ≡ fulls)
ReadyCounts (Err (Full entries bytes)) faults faults' fulls fulls' = (faults' ≡ faults) × Rose fulls fulls'
ReadyCounts (Err Failed) faults faults' fulls fulls' = Rose faults faults' × (fulls' ≡ fulls)

-- ---- adding an entry

abbrev pub noted : {E : Type 0} → E → Option (List E) → Option (List E)
noted entry None = None
noted entry (Some entries) = Some (entries ++ entry ∷ [])
