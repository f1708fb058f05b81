-- Work values are words of 32 bits.
use Rattle.std.proofs.Common.{arith, ℤ, w32, FitsSigned}
use Rattle.std.proofs.lemmas.Int.{ints}
use Rattle.px_sample.specs.declared.format.Width.{Width}
use Rattle.px_sample.specs.declared.format.Width.TheVariants.{W8, W16, W32}
use Rattle.px_sample.specs.WorkValue.{IsWithin}

pub word_within : (width : Width) (value : ℤ) → IsWithin width value → FitsSigned w32 value
word_within W8 value within = let low = within.low in let high = within.high in omega (arith, ints)
word_within W16 value within = let low = within.low in let high = within.high in omega (arith, ints)
word_within W32 value within = let low = within.low in let high = within.high in omega (arith, ints)
