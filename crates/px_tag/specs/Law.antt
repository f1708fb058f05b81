-- The law that a kind of item is an alphabet: each value has one spelling, and it is read exactly where that spelling is.
use Rattle.std.specs.Prelude.{◌≡◌, ℕ, ◌<◌, List, ◌++◌, slice_index, Ok}
use Rattle.px_tag.specs.Place.{Place, Reading}

abbrev pub AreBytes : List ℕ → Type 0
AreBytes bytes = (i : ℕ) → slice_index bytes i < 256

-- the spelling begins at the place `place`, and `after` is the place past it in the same packet
pub record Stands (spelling : List ℕ) (place after : Place) : Type 0 where
  pub bytes : place.rest ≡ spelling ++ after.rest
  pub size : after.size ≡ place.size
  pub are_bytes : AreBytes after.rest

pub record HasOneSpelling {A : Type 0} (IsValue : A → Type 0) (spelling : A → List ℕ) (read : Reading A) : Type 0 where
  -- what was spelled is read, whatever follows it
  pub again : (value : A) (size : ℕ) (behind : List ℕ) → IsValue value → read (record { size = size; rest = spelling value ++ behind }) ≡ Ok (value, record { size = size; rest = behind })
  -- what is read is a value of the kind, and its spelling is there
  pub found : (place : Place) (value : A) (after : Place) → AreBytes place.rest → read place ≡ Ok (value, after) → Stands (spelling value) place after × IsValue value
  -- no spelling is the beginning of another
  pub one : (v w : A) (x y : List ℕ) → IsValue v → IsValue w → spelling v ++ x ≡ spelling w ++ y → (v ≡ w) × (x ≡ y)
