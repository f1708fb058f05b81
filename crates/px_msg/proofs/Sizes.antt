-- The bytes of a sample: 1 to 4, by a format as by its code.
use Rattle.std.proofs.Common.{◌≡◌, ◌≤◌, ◌*◌, arith, refl, ◌∙◌, ap}
use Rattle.px_sample.specs.declared.format.Format.{Format}
use Rattle.px_sample.specs.declared.format.Format.TheVariants.{U8, Alaw, Ulaw, S16Le, S16Be, Float32Le, Float32Be, S32Le, S32Be, S24Le, S24Be, S24In32Le, S24In32Be}
use Rattle.px_sample.specs.declared.spec.Spec.{Spec}
use Rattle.px_sample.specs.Format.{code_of, size_of, frame_size_of}
use Rattle.px_model.specs.Frame.{sample_size, frame_size}
use Rattle.px_msg.specs.View.{sample_spec}

pub size_some : (format : Format) → 1 ≤ size_of format
size_some U8 = omega arith
size_some Alaw = omega arith
size_some Ulaw = omega arith
size_some S16Le = omega arith
size_some S16Be = omega arith
size_some Float32Le = omega arith
size_some Float32Be = omega arith
size_some S32Le = omega arith
size_some S32Be = omega arith
size_some S24Le = omega arith
size_some S24Be = omega arith
size_some S24In32Le = omega arith
size_some S24In32Be = omega arith

pub size_few : (format : Format) → size_of format ≤ 4
size_few U8 = omega arith
size_few Alaw = omega arith
size_few Ulaw = omega arith
size_few S16Le = omega arith
size_few S16Be = omega arith
size_few Float32Le = omega arith
size_few Float32Be = omega arith
size_few S32Le = omega arith
size_few S32Be = omega arith
size_few S24Le = omega arith
size_few S24Be = omega arith
size_few S24In32Le = omega arith
size_few S24In32Be = omega arith

size_by_code : (format : Format) → sample_size (code_of format) ≡ size_of format
size_by_code U8 = refl
size_by_code Alaw = refl
size_by_code Ulaw = refl
size_by_code S16Le = refl
size_by_code S16Be = refl
size_by_code Float32Le = refl
size_by_code Float32Be = refl
size_by_code S32Le = refl
size_by_code S32Be = refl
size_by_code S24Le = refl
size_by_code S24Be = refl
size_by_code S24In32Le = refl
size_by_code S24In32Be = refl

pub same_frame_size : (spec : Spec) → frame_size (sample_spec spec) ≡ frame_size_of spec
same_frame_size spec = ap (λ size. spec.channels * size) (size_by_code spec.format) ∙ omega arith
