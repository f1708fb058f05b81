-- Blocks are given one after another.
use Rattle.std.proofs.Common.{◌≡◌, ℕ, ◌+◌, Option, None, Some, refl, ap, arith}
use Rattle.px_block.specs.Given.{after_giving}

pub giving_none : (given : Option ℕ) → after_giving given 0 ≡ given
giving_none None = refl
giving_none (Some n) = ap Some (omega arith)

pub giving_both : (given : Option ℕ) (a b : ℕ) → after_giving (after_giving given a) b ≡ after_giving given (a + b)
giving_both None a b = refl
giving_both (Some n) a b = ap Some (omega arith)
