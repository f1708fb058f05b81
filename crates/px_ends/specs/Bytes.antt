-- How the answers of reads and writes relate to the bytes that leave a source or reach a sink, and to the counts of faults.
use Rattle.std.specs.Prelude.{◌≡◌, ℕ, ◌≤◌, List, length, take, Option}
use Rattle.px_ends.specs.declared.bytes.Got.{Got}
use Rattle.px_ends.specs.declared.bytes.Got.TheVariants as got
use Rattle.px_ends.specs.declared.bytes.Took.{Took}
use Rattle.px_ends.specs.declared.bytes.Took.TheVariants as took
use Rattle.px_ends.specs.Visible.{before_taking, after_adding, IsAtEnd}
use Rattle.px_types.specs.Faults.{Rose}

-- the first n bytes of what was left moved to the front of the buffer
pub record Departs (n : ℕ) (buffer : List ℕ) (old new : Option (List ℕ)) : Type 0 where
  pub some : 1 ≤ n
  pub fit : n ≤ length buffer
  pub left : old ≡ before_taking (take n buffer) new

-- what a read with this answer did: moved bytes, found the end only where nothing is left, or moved nothing
abbrev pub ReadGives : Got → List ℕ → Option (List ℕ) → Option (List ℕ) → Type 0
ReadGives (got.Bytes n) buffer old new = Departs n buffer old new
ReadGives got.End buffer old new = IsAtEnd old × (new ≡ old)
ReadGives got.Failed buffer old new = new ≡ old

-- the count of faults rises in a read that failed, and in no other
abbrev pub ReadCounts : Got → ℕ → ℕ → Type 0
ReadCounts (got.Bytes n) before now = now ≡ before
ReadCounts got.End before now = now ≡ before
ReadCounts got.Failed before now = Rose before now

-- the first n of these bytes were added to what is held
pub record Adds (n : ℕ) (bytes : List ℕ) (old new : Option (List ℕ)) : Type 0 where
  pub some : 1 ≤ n
  pub fit : n ≤ length bytes
  pub held : new ≡ after_adding old (take n bytes)

-- what such a write did
abbrev pub WriteTakes : Took → List ℕ → Option (List ℕ) → Option (List ℕ) → Type 0
WriteTakes (took.Bytes n) bytes old new = Adds n bytes old new
WriteTakes took.Failed bytes old new = new ≡ old

abbrev pub WriteCounts : Took → ℕ → ℕ → Type 0
WriteCounts (took.Bytes n) before now = now ≡ before
WriteCounts took.Failed before now = Rose before now
