-- How bytes lie in blocks.
use Rattle.std.specs.Prelude.{◌≡◌, ℕ, ◌<◌, ◌≤◌, List, [], ◌∷◌, length}
use Rattle.px_block.specs.declared.block.TheConstants.{BLOCK_SIZE}

-- none is empty, none has more than BLOCK_SIZE bytes, and each but the last is full
abbrev pub IsPacked : List (List ℕ) → Type 0
IsPacked [] = Unit {0}
IsPacked (block ∷ blocks) =
    (0 < length block) × (length block ≤ BLOCK_SIZE) × (0 < length blocks → length block ≡ BLOCK_SIZE) × IsPacked blocks

-- each has BLOCK_SIZE bytes
abbrev pub AreFull : List (List ℕ) → Type 0
AreFull [] = Unit {0}
AreFull (block ∷ blocks) = (length block ≡ BLOCK_SIZE) × AreFull blocks
