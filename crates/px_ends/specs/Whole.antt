-- The results of the loops over reads and writes.
use Rattle.std.specs.Prelude.{◌≡◌, ℕ, ◌<◌, ◌≤◌, List, ◌++◌, length, take, Option}
use Rattle.px_ends.specs.declared.whole.Filled.{Filled}
use Rattle.px_ends.specs.declared.whole.Filled.TheVariants as filled
use Rattle.px_ends.specs.Visible.{before_taking, after_adding, IsAtEnd}
use Rattle.px_types.specs.Faults.{Rose}

-- the first n bytes of what was left moved to the front of the buffer
pub record Front (n : ℕ) (buffer : List ℕ) (old new : Option (List ℕ)) : Type 0 where
  pub fit : n ≤ length buffer
  pub left : old ≡ before_taking (take n buffer) new

abbrev pub FillGives : Filled → List ℕ → Option (List ℕ) → Option (List ℕ) → Type 0
FillGives filled.Full buffer old new = old ≡ before_taking buffer new
FillGives (filled.Ended n) buffer old new = Front n buffer old new × (n < length buffer) × IsAtEnd new
FillGives filled.Failed buffer old new = (n : ℕ) × Front n buffer old new

abbrev pub FillCounts : Filled → ℕ → ℕ → Type 0
FillCounts filled.Full before now = now ≡ before
FillCounts (filled.Ended n) before now = now ≡ before
FillCounts filled.Failed before now = Rose before now

-- a front of these bytes was added to what is held
pub record AddsFront (bytes : List ℕ) (old new : Option (List ℕ)) : Type 0 where
  pub front : List ℕ
  pub rest : List ℕ
  pub joined : bytes ≡ front ++ rest
  pub held : new ≡ after_adding old front
