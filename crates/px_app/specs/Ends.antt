-- The input, the output and the log of a run, as contracts see them: the bytes, where they are visible, and the number of failed calls.
use Rattle.std.specs.Prelude.{◌≡◌, ◌⊎◌, ℕ, List, Option}
use Rattle.px_types.specs.Faults.{Rose}
use Rattle.px_ends.specs.Visible.{after_adding}

-- the input and the output
pub record Ends : Type 0 where
  -- the input's unread bytes
  pub left : Option (List ℕ)
  pub read_faults : ℕ
  -- the output's bytes
  pub held : Option (List ℕ)
  pub write_faults : ℕ

-- the log
pub record Log : Type 0 where
  -- its bytes
  pub held : Option (List ℕ)
  pub faults : ℕ

abbrev pub ends_of : Option (List ℕ) → ℕ → Option (List ℕ) → ℕ → Ends
ends_of left read_faults held write_faults = record { left = left; read_faults = read_faults; held = held; write_faults = write_faults }

abbrev pub log_end : Option (List ℕ) → ℕ → Log
log_end held faults = record { held = held; faults = faults }

-- no read and no write failed in between
abbrev pub AreQuiet : Ends → Ends → Type 0
AreQuiet before after = (after.read_faults ≡ before.read_faults) × (after.write_faults ≡ before.write_faults)

-- a count of faults is unchanged or rose
abbrev pub SameOrRose : ℕ → ℕ → Type 0
SameOrRose before now = (now ≡ before) ⊎ Rose before now

-- bytes were only appended
abbrev pub Grew : Option (List ℕ) → Option (List ℕ) → Type 0
Grew first now = (front : List ℕ) × (now ≡ after_adding first front)
