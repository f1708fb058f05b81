-- How many blocks a source was given back, where that is visible.
use Rattle.std.specs.Prelude.{ℕ, ◌+◌, ◌-◌, ◌/◌, Option, None, Some}
use Rattle.px_block.specs.declared.block.TheConstants.{BLOCK_SIZE}

-- after n more were given back
abbrev pub after_giving : Option ℕ → ℕ → Option ℕ
after_giving None n = None
after_giving (Some before) n = Some (before + n)

-- how many blocks this many bytes fill, each but the last full
abbrev pub blocks_for : ℕ → ℕ
blocks_for bytes = (bytes + (BLOCK_SIZE - 1)) / BLOCK_SIZE
