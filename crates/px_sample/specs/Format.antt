-- Sample formats: their codes, bytes per sample, and the width of their work values.
use Rattle.std.specs.Prelude.{ℕ, ◌*◌, List, [], ◌∷◌, slice_index_or}
use Rattle.px_sample.specs.declared.format.Width.{Width}
use Rattle.px_sample.specs.declared.format.Width.TheVariants.{W8, W16, W32}
use Rattle.px_sample.specs.declared.format.Format.{Format}
use Rattle.px_sample.specs.declared.format.Format.TheVariants.{U8, Alaw, Ulaw, S16Le, S16Be, Float32Le, Float32Be, S32Le, S32Be, S24Le, S24Be, S24In32Le, S24In32Be}
use Rattle.px_sample.specs.declared.spec.Spec.{Spec}

-- the code of a format, as in PulseAudio's `pulse/sample.h`
abbrev pub code_of : Format → ℕ
code_of U8 = 0
code_of Alaw = 1
code_of Ulaw = 2
code_of S16Le = 3
code_of S16Be = 4
code_of Float32Le = 5
code_of Float32Be = 6
code_of S32Le = 7
code_of S32Be = 8
code_of S24Le = 9
code_of S24Be = 10
code_of S24In32Le = 11
code_of S24In32Be = 12

-- all formats in the order of their codes, and the format with a code
abbrev pub formats : List Format
formats = U8 ∷ Alaw ∷ Ulaw ∷ S16Le ∷ S16Be ∷ Float32Le ∷ Float32Be ∷ S32Le ∷ S32Be ∷ S24Le ∷ S24Be ∷ S24In32Le ∷ S24In32Be ∷ []

abbrev pub format_with : ℕ → Format
format_with code = slice_index_or formats code U8

-- bytes per sample
abbrev pub size_of : Format → ℕ
size_of U8 = 1
size_of Alaw = 1
size_of Ulaw = 1
size_of S16Le = 2
size_of S16Be = 2
size_of Float32Le = 4
size_of Float32Be = 4
size_of S32Le = 4
size_of S32Be = 4
size_of S24Le = 3
size_of S24Be = 3
size_of S24In32Le = 4
size_of S24In32Be = 4

-- the width of a format's work values
abbrev pub width_of : Format → Width
width_of U8 = W8
width_of Alaw = W16
width_of Ulaw = W16
width_of S16Le = W16
width_of S16Be = W16
width_of Float32Le = W32
width_of Float32Be = W32
width_of S32Le = W32
width_of S32Be = W32
width_of S24Le = W32
width_of S24Be = W32
width_of S24In32Le = W32
width_of S24In32Be = W32

-- the samples of a format are whole numbers, not floating point
abbrev pub IsWhole : Format → Type 0
IsWhole Float32Le = ⊥
IsWhole Float32Be = ⊥
IsWhole _ = Unit {0}

-- the samples of a format are whole numbers in even steps, so neither floating point nor G.711
abbrev pub IsLinear : Format → Type 0
IsLinear Alaw = ⊥
IsLinear Ulaw = ⊥
IsLinear Float32Le = ⊥
IsLinear Float32Be = ⊥
IsLinear _ = Unit {0}

-- bytes per frame, which has one sample a channel
abbrev pub frame_size_of : Spec → ℕ
frame_size_of spec = size_of spec.format * spec.channels
