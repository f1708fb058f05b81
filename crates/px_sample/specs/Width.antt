-- The widths of work values.
use Rattle.std.specs.Prelude.{ℕ}
use Rattle.px_sample.specs.declared.format.Width.{Width}
use Rattle.px_sample.specs.declared.format.Width.TheVariants.{W8, W16, W32}

-- the bits of a work value of this width, its sign among them
abbrev pub bits_of : Width → ℕ
bits_of W8 = 8
bits_of W16 = 16
bits_of W32 = 32
