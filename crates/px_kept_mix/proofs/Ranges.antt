-- Shares, and sums of them, in range.
use Rattle.std.proofs.Common.{ℕ, ◌+◌, ◌^◌, ◌<◌, Bool, true, false, arith, ℤ, pos, negsuc, w32, w64, FitsSigned}
use Rattle.std.specs.Prelude.{◌*ℤ◌}
use Rattle.std.specs.Int.{int_div_euclid}
use Rattle.std.proofs.lemmas.Int.{ints}
use Rattle.px_kernel.specs.Kernel.{changed, scaled}
use Rattle.px_kernel.proofs.Shares.{product_fits}
use Rattle.px_kept_mix.specs.Kept.{IsSumOf}

-- a sum of a few hundred shares fits a word
pub sum_fits : (z : ℤ) → IsSumOf 259 z → FitsSigned w64 z
sum_fits (pos n) h = record { sfits = omega (arith, ints, h.high) }
sum_fits (negsuc n) h = record { sfits = omega (arith, ints, h.low) }

parted : (z : ℤ) → FitsSigned w64 z → IsSumOf 1 (int_div_euclid z (pos 65536))
parted (pos n) h = record { low = omega (arith, ints); high = omega (arith, ints, h.sfits) }
parted (negsuc n) h = record { low = omega (arith, ints, h.sfits); high = omega (arith, ints) }

-- a value of 32 bits by a factor of as many
pub share_little : (value : ℤ) (factor : ℕ) → FitsSigned w32 value → factor < 2 ^ 32 → IsSumOf 1 (scaled value factor)
share_little value factor fits small = parted (value *ℤ pos factor) (product_fits value factor fits small)

-- one share more or less
pub one_more : (n : ℕ) (add : Bool) (sum share : ℤ) → IsSumOf n sum → IsSumOf 1 share → IsSumOf (n + 1) (changed add sum share)
one_more n true sum share h one = record { low = omega (arith, ints, h.low, one.low); high = omega (arith, ints, h.high, one.high) }
one_more n false sum share h one = record { low = omega (arith, ints, h.low, one.high); high = omega (arith, ints, h.high, one.low) }

pub few_more : (sum : ℤ) → IsSumOf 256 sum → IsSumOf 258 sum
few_more sum h = record { low = omega (arith, ints, h.low); high = omega (arith, ints, h.high) }
