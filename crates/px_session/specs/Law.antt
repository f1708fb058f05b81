-- The law that a reading and a spelling describe one grammar.
use Rattle.std.specs.Prelude.{◌≡◌, ℕ, ◌+◌, ◌<◌, ◌≤◌, List, ◌++◌, length, slice_index, Ok}
use Rattle.px_session.specs.Place.{Place, Reading, limit}

abbrev pub AreBytes : List ℕ → Type 0
AreBytes bytes = (i : ℕ) → slice_index bytes i < 256

-- these bytes begin at the place `place`, and `after` is the place past them
pub record Stands (bytes : List ℕ) (place after : Place) : Type 0 where
  pub joined : place.rest ≡ bytes ++ after.rest
  pub at : after.at ≡ place.at + length bytes
  pub are_bytes : AreBytes after.rest

abbrev pub behind : ℕ → List ℕ → List ℕ → Place
behind at bytes rest = record { at = at + length bytes; rest = rest }

-- `Spells value bytes`: the value is lawful, and these bytes are a spelling of it
pub record IsLaw {A : Type 0} (read : Reading A) (Spells : A → List ℕ → Type 0) : Type 0 where
  -- what is read is lawful, and its spelling is there
  pub found : (place : Place) (x : A × Place) → AreBytes place.rest → read place ≡ Ok x → (bytes : List ℕ) × Spells x.0 bytes × Stands bytes place x.1
  -- what was spelled is read, whatever follows it
  pub again : (value : A) (bytes : List ℕ) (at : ℕ) (rest : List ℕ) → Spells value bytes → at + length bytes ≤ limit → read (record { at = at; rest = bytes ++ rest }) ≡ Ok (value, behind at bytes rest)
