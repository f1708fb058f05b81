-- What a mix asks of the sample formats, out of the formats' own definitions.
use Rattle.std.specs.Int.{Width as BitWidth, w8, w16, w32}
use Rattle.px_sample.specs.declared.format.Width.{Width}
use Rattle.px_sample.specs.declared.format.Width.TheVariants.{W8, W16, W32}
use Rattle.px_sample.specs.Format.{format_with, width_of}
use Rattle.px_sample.specs.WorkValue.{work_value_of, at_width, packed_sample}
use Rattle.px_model.specs.Mix.{Samples}

-- a width of work values as a width of numbers, and the other way
abbrev pub bit_width : Width → BitWidth
bit_width W8 = w8
bit_width W16 = w16
bit_width W32 = w32

abbrev pub work_width : BitWidth → Width
work_width w8 = W8
work_width w16 = W16
work_width _ = W32

abbrev pub samples : Samples
samples = record {
  width = λ code. bit_width (width_of (format_with code));
  work = λ code bytes. work_value_of (format_with code) bytes;
  to = λ from to value. at_width (work_width from) (work_width to) value;
  packed = λ code value. packed_sample (format_with code) value;
}
