-- The invariant of the blocks in a pool.
use Rattle.std.specs.Prelude.{◌≡◌, List, [], All}
use Rattle.px_block.specs.HeldBlock.{HeldBlock}

-- each block is empty
abbrev pub AreEmpty : List HeldBlock → Type 0
AreEmpty blocks = All (λ b. b.bytes ≡ []) blocks
