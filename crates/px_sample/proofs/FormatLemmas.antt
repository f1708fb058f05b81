-- A format is known by its code.
use Rattle.std.proofs.Common.{◌<◌, ◌≡◌, ℕ, [], ◌∷◌, refl, ap, sym, ◌∙◌, arith}
use Rattle.std.proofs.Math.ListN.{get_or}
use Rattle.px_sample.specs.declared.format.Format.{Format}
use Rattle.px_sample.specs.declared.format.Format.TheVariants.{U8, Alaw, Ulaw, S16Le, S16Be, Float32Le, Float32Be, S32Le, S32Be, S24Le, S24Be, S24In32Le, S24In32Be}
use Rattle.px_sample.specs.Format.{code_of, size_of}

-- the format with this code
abbrev pub format_at : ℕ → Format
format_at code =
    get_or (U8 ∷ Alaw ∷ Ulaw ∷ S16Le ∷ S16Be ∷ Float32Le ∷ Float32Be ∷ S32Le ∷ S32Be ∷ S24Le ∷ S24Be ∷ S24In32Le ∷ S24In32Be ∷ []) code U8

pub format_at-code_of : (format : Format) → format_at (code_of format) ≡ format
format_at-code_of U8 = refl
format_at-code_of Alaw = refl
format_at-code_of Ulaw = refl
format_at-code_of S16Le = refl
format_at-code_of S16Be = refl
format_at-code_of Float32Le = refl
format_at-code_of Float32Be = refl
format_at-code_of S32Le = refl
format_at-code_of S32Be = refl
format_at-code_of S24Le = refl
format_at-code_of S24Be = refl
format_at-code_of S24In32Le = refl
format_at-code_of S24In32Be = refl

-- two formats with one code are one
pub code_of-injective : (a b : Format) → code_of a ≡ code_of b → a ≡ b
code_of-injective a b same = sym (format_at-code_of a) ∙ ap format_at same ∙ format_at-code_of b

-- a sample has at least a byte
pub size_of-some : (format : Format) → 0 < size_of format
size_of-some U8 = omega arith
size_of-some _ = omega arith
