-- Blocks on a shelf, each under a key and with its count of references.
use Rattle.std.specs.Prelude.{◌≡◌, ◌≢◌, ℕ, ◌+◌, ◌-◌, ◌==◌, List, [], ◌∷◌, ◌++◌, Option, Some, None, slice_index_or, if◌then◌else◌}

pub record Shelved : Type 0 where
  pub bytes : List ℕ
  pub references : ℕ

-- the block under each key from 0 on, if any, and how many more blocks there is room for
pub record Shelves : Type 0 where
  pub slots : List (Option Shelved)
  pub room : ℕ

-- the block under a key, if any
abbrev pub under : Shelves → ℕ → Option Shelved
under s key = slice_index_or s.slots key None

-- its count of references, 0 where there is no block
abbrev pub references_to : Option Shelved → ℕ
references_to None = 0
references_to (Some b) = b.references

-- 1 where there is a block, else 0
abbrev pub one_of : Option Shelved → ℕ
one_of None = 0
one_of (Some b) = 1

abbrev pub count_of : List (Option Shelved) → ℕ
count_of [] = 0
count_of (o ∷ slots) = one_of o + count_of slots

-- how many blocks are on the shelf
abbrev pub blocks_on : Shelves → ℕ
blocks_on s = count_of s.slots

-- its bytes
abbrev pub bytes_of : Option Shelved → List ℕ
bytes_of None = []
bytes_of (Some b) = b.bytes

-- more bytes after its own
abbrev pub appended : Option Shelved → List ℕ → Option Shelved
appended None bytes = None
appended (Some b) bytes = Some (record b { bytes = b.bytes ++ bytes })

-- one more reference
abbrev pub retained : Option Shelved → Option Shelved
retained None = None
retained (Some b) = Some (record b { references = b.references + 1 })

-- one reference fewer; with the last one the block goes
abbrev pub released : Option Shelved → Option Shelved
released None = None
released (Some b) = if b.references == 1 then None else Some (record b { references = b.references - 1 })

-- the key now holds this, and every other key holds what it held
pub record SetsOnly (old new : Shelves) (key : ℕ) (o : Option Shelved) : Type 0 where
  pub there : under new key ≡ o
  pub others : (k : ℕ) → k ≢ key → under new k ≡ under old k
