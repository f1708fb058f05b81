-- The work values of a frame's channels, out of its bytes.
use Rattle.std.proofs.Common.{◌≡◌, ℕ, zero, suc, ◌+◌, ◌-◌, ◌*◌, ◌/◌, ◌<◌, ◌≤◌, List, [], ◌∷◌, length, map, take, drop, get_or, refl, ap, sym, ◌∙◌, arith, ℤ, pos, drop-drop, mul_comm}
use Rattle.std.proofs.Math.Nat.{add-mul, mul-le-mul, mul_assoc}
use Rattle.std.proofs.lemmas.List.{get_or-map, length-map, drop-take}
use Rattle.std.specs.Prelude.{slice_index}
use Rattle.std.specs.Simd.{first_chunks}
use Rattle.px_sample.specs.declared.format.Format.{Format}
use Rattle.px_sample.specs.declared.format.Format.TheVariants.{U8, Alaw, Ulaw, S16Le, S16Be, Float32Le, Float32Be, S32Le, S32Be, S24Le, S24Be, S24In32Le, S24In32Be}
use Rattle.px_sample.specs.declared.format.Width.{Width}
use Rattle.px_sample.specs.declared.format.Width.TheVariants.{W8, W16, W32}
use Rattle.px_sample.specs.declared.spec.Spec.{Spec}
use Rattle.px_sample.specs.Format.{code_of, format_with, size_of, width_of, frame_size_of, IsWhole}
use Rattle.px_sample.specs.WorkValue.{work_value_of, work_values_of, at_width}
use Rattle.px_sample.proofs.FormatLemmas.{size_of-some}
use Rattle.px_sample.proofs.RunLemmas.{whole_samples, next_fits}
use Rattle.px_sample.proofs.WidthLemmas.{same_width}
use Rattle.px_model.specs.Frame.{Frame, SampleSpec, frame_size, sample_size, sample_of}
use Rattle.px_model.specs.Stream.{Stream}
use Rattle.px_msg.specs.View.{sample_spec}
use Rattle.px_stream.specs.Samples.{samples, bit_width, work_width}
use Rattle.px_stream.specs.Values.{value_in}
use Rattle.px_stream.specs.Lent.{sample_at}

-- ---- formats and their codes

pub format_known : (format : Format) → format_with (code_of format) ≡ format
format_known U8 = refl
format_known Alaw = refl
format_known Ulaw = refl
format_known S16Le = refl
format_known S16Be = refl
format_known Float32Le = refl
format_known Float32Be = refl
format_known S32Le = refl
format_known S32Be = refl
format_known S24Le = refl
format_known S24Be = refl
format_known S24In32Le = refl
format_known S24In32Be = refl

pub size_known : (format : Format) → sample_size (code_of format) ≡ size_of format
size_known U8 = refl
size_known Alaw = refl
size_known Ulaw = refl
size_known S16Le = refl
size_known S16Be = refl
size_known Float32Le = refl
size_known Float32Be = refl
size_known S32Le = refl
size_known S32Be = refl
size_known S24Le = refl
size_known S24Be = refl
size_known S24In32Le = refl
size_known S24In32Be = refl

pub width_known : (width : Width) → work_width (bit_width width) ≡ width
width_known W8 = refl
width_known W16 = refl
width_known W32 = refl

pub frame_size_known : (spec : Spec) → frame_size (sample_spec spec) ≡ frame_size_of spec
frame_size_known spec = ap (λ (n : ℕ). spec.channels * n) (size_known spec.format) ∙ mul_comm spec.channels (size_of spec.format)

-- ---- the values of its channels

pub chunk_at : (size n i : ℕ) (bytes : List ℕ) → i < n → get_or (first_chunks size n bytes) i [] ≡ take size (drop (i * size) bytes)
chunk_at size zero i bytes less = absurd (omega (arith, less))
chunk_at size (suc n) zero bytes less = let e : 0 ≡ 0 * size = omega arith in ap (λ (at : ℕ). take size (drop at bytes)) e
chunk_at size (suc n) (suc i) bytes less =
    chunk_at size n i (drop size bytes) (omega (arith, less))
    ∙ (let e : size + i * size ≡ suc i * size = omega (arith, add-mul 1 i size) in
    ap (λ (rest : List ℕ). take size rest) (drop-drop (i * size) size bytes ∙ ap (λ (at : ℕ). drop at bytes) e))

pub length_chunks : (size n : ℕ) (bytes : List ℕ) → length (first_chunks size n bytes) ≡ n
length_chunks size zero bytes = refl
length_chunks size (suc n) bytes = omega (arith, length_chunks size n (drop size bytes))

-- a chunk of many, by its number
pub chunk_got : (count i : ℕ) (bytes : List ℕ) (chunks : List (List ℕ)) → chunks ≡ first_chunks 2 (length bytes / 2) bytes → length bytes ≡ 2 * count → i < count
    → get_or chunks i [] ≡ take 2 (drop (i * 2) bytes)
chunk_got count i bytes chunks is size less =
    let many : length bytes / 2 ≡ count = whole_samples 2 count (length bytes) (omega arith) size in
    ap (λ (xs : List (List ℕ)). get_or xs i []) is ∙ chunk_at 2 (length bytes / 2) i bytes (omega (arith, less, many))

-- the value of channel i at a width, out of a frame's bytes
pub value_got : (format : Format) (channels i : ℕ) (to : Width) (frame : List ℕ) → length frame ≡ size_of format * channels → i < channels
    → get_or (map (at_width (width_of format) to) (work_values_of format frame)) i (pos 0)
    ≡ at_width (width_of format) to (work_value_of format (take (size_of format) (drop (i * size_of format) frame)))
value_got format channels i to frame size less =
    let count : length frame / size_of format ≡ channels = whole_samples (size_of format) channels (length frame) (size_of-some format) size in
    let there : i < length (first_chunks (size_of format) (length frame / size_of format) frame) =
    omega (arith, less, count, length_chunks (size_of format) (length frame / size_of format) frame) in
    get_or-map (at_width (width_of format) to) (work_values_of format frame) i (work_value_of format []) (pos 0)
    (omega (arith, there, length-map (first_chunks (size_of format) (length frame / size_of format) frame) (work_value_of format)))
    ∙ ap (at_width (width_of format) to)
    (get_or-map (work_value_of format) (first_chunks (size_of format) (length frame / size_of format) frame) i [] (work_value_of format []) there
    ∙ ap (work_value_of format) (chunk_at (size_of format) (length frame / size_of format) i frame (omega (arith, less, count))))

-- the same as the definition has it
value_known : (spec : Spec) (to : Width) (i : ℕ) (frame : List ℕ)
    → samples.to (samples.width (code_of spec.format)) (bit_width to) (samples.work (code_of spec.format) (sample_of (sample_spec spec) frame i))
    ≡ at_width (width_of spec.format) to (work_value_of spec.format (take (size_of spec.format) (drop (i * size_of spec.format) frame)))
value_known spec to i frame =
    ap (λ (n : ℕ). at_width (work_width (bit_width (width_of (format_with (code_of spec.format))))) (work_width (bit_width to))
    (work_value_of (format_with (code_of spec.format)) (take n (drop (i * n) frame)))) (size_known spec.format)
    ∙ ap (λ (g : Format). at_width (work_width (bit_width (width_of g))) (work_width (bit_width to))
    (work_value_of g (take (size_of spec.format) (drop (i * size_of spec.format) frame)))) (format_known spec.format)
    ∙ ap (λ (w : Width). at_width w (work_width (bit_width to))
    (work_value_of spec.format (take (size_of spec.format) (drop (i * size_of spec.format) frame)))) (width_known (width_of spec.format))
    ∙ ap (λ (w : Width). at_width (width_of spec.format) w
    (work_value_of spec.format (take (size_of spec.format) (drop (i * size_of spec.format) frame)))) (width_known to)

take_take : (n m : ℕ) (xs : List ℕ) → n ≤ m → take n (take m xs) ≡ take n xs
take_take zero m xs fits = refl
take_take (suc n) zero xs fits = absurd (omega (arith, fits))
take_take (suc n) (suc m) [] fits = refl
take_take (suc n) (suc m) (x ∷ xs) fits = ap (λ (ys : List ℕ). x ∷ ys) (take_take n m xs (omega (arith, fits)))

-- a sample of frame j stands among the bytes of many frames
sample_in : (size channels j i : ℕ) (bytes : List ℕ) → i < channels
    → take size (drop (i * size) (take (size * channels) (drop (j * (size * channels)) bytes))) ≡ take size (drop ((j * channels + i) * size) bytes)
sample_in size channels j i bytes less =
    let room : i * size + size ≤ size * channels = next_fits size i channels (size * channels) less refl in
    let split : size * channels ≡ i * size + (size * channels - i * size) = omega (arith, room) in
    let at : j * (size * channels) + i * size ≡ (j * channels + i) * size =
    ap (λ (n : ℕ). j * n + i * size) (mul_comm size channels) ∙ ap (λ (n : ℕ). n + i * size) (sym (mul_assoc j channels size)) ∙ sym (add-mul (j * channels) i size) in
    ap (λ (n : ℕ). take size (drop (i * size) (take n (drop (j * (size * channels)) bytes)))) split
    ∙ ap (λ (xs : List ℕ). take size xs) (drop-take (i * size) (size * channels - i * size) (drop (j * (size * channels)) bytes))
    ∙ take_take size (size * channels - i * size) (drop (i * size) (drop (j * (size * channels)) bytes)) (omega (arith, room))
    ∙ ap (λ (xs : List ℕ). take size xs) (drop-drop (i * size) (j * (size * channels)) bytes ∙ ap (λ (n : ℕ). drop n bytes) at)

-- the value of a channel in frame j of these, by its sample's bytes
pub value_there : (spec : Spec) (to : Width) (s : Stream) (c j : ℕ) (bytes : List ℕ) → sample_spec spec ≡ s.spec → slice_index s.feed c < spec.channels
    → value_in to s c (take (frame_size_of spec) (drop (j * frame_size_of spec) bytes))
    ≡ at_width (width_of spec.format) to (work_value_of spec.format (take (size_of spec.format) (drop ((j * spec.channels + slice_index s.feed c) * size_of spec.format) bytes)))
value_there spec to s c j bytes is channel =
    let i = slice_index s.feed c in
    let frame : Frame = take (frame_size_of spec) (drop (j * frame_size_of spec) bytes) in
    ap (λ (t : SampleSpec). samples.to (samples.width t.format) (bit_width to) (samples.work t.format (sample_of t frame i))) (sym is)
    ∙ value_known spec to i frame
    ∙ ap (λ (xs : List ℕ). at_width (width_of spec.format) to (work_value_of spec.format xs)) (sample_in (size_of spec.format) spec.channels j i bytes channel)

-- a sample of 16 bits is its own value at that width
pub value_lent : (spec : Spec) (to : Width) (s : Stream) (c j : ℕ) (bytes : List ℕ) → sample_spec spec ≡ s.spec → slice_index s.feed c < spec.channels → spec.format ≡ S16Le → to ≡ W16
    → sample_at bytes (j * spec.channels + slice_index s.feed c) ≡ value_in to s c (take (frame_size_of spec) (drop (j * frame_size_of spec) bytes))
value_lent spec to s c j bytes is channel format width =
    let i : ℕ = j * spec.channels + slice_index s.feed c in
    sym (value_there spec to s c j bytes is channel
    ∙ ap (λ (f : Format). at_width (width_of f) to (work_value_of f (take (size_of f) (drop (i * size_of f) bytes)))) format
    ∙ ap (λ (w : Width). at_width W16 w (sample_at bytes i)) width
    ∙ ap (λ (xs : List ℤ). get_or xs 0 (pos 0)) (same_width W16 W16 (sample_at bytes i ∷ []) refl))

-- the value in frame j of the channel that feeds a channel of the sink
pub value_by : (spec : Spec) (to : Width) (s : Stream) (c j total : ℕ) (bytes : List ℕ) (values : List ℤ) → sample_spec spec ≡ s.spec → length bytes ≡ size_of spec.format * total
    → slice_index s.feed c < spec.channels → j * spec.channels + slice_index s.feed c < total
    → values ≡ map (at_width (width_of spec.format) to) (work_values_of spec.format bytes)
    → get_or values (j * spec.channels + slice_index s.feed c) (pos 0) ≡ value_in to s c (take (frame_size_of spec) (drop (j * frame_size_of spec) bytes))
value_by spec to s c j total bytes values is size channel there all =
    let i = slice_index s.feed c in
    let frame : Frame = take (frame_size_of spec) (drop (j * frame_size_of spec) bytes) in
    ap (λ (xs : List ℤ). get_or xs (j * spec.channels + i) (pos 0)) all
    ∙ value_got spec.format total (j * spec.channels + i) to bytes size there
    ∙ ap (λ (xs : List ℕ). at_width (width_of spec.format) to (work_value_of spec.format xs)) (sym (sample_in (size_of spec.format) spec.channels j i bytes channel))
    ∙ sym (value_known spec to i frame)
    ∙ ap (λ (t : SampleSpec). samples.to (samples.width t.format) (bit_width to) (samples.work t.format (sample_of t frame i))) is

-- a format that a stream may have is one of whole numbers
pub whole_format : (format : Format) → ((code_of format ≡ 5) → ⊥) → ((code_of format ≡ 6) → ⊥) → IsWhole format
whole_format U8 le be = tt
whole_format Alaw le be = tt
whole_format Ulaw le be = tt
whole_format S16Le le be = tt
whole_format S16Be le be = tt
whole_format Float32Le le be = le refl
whole_format Float32Be le be = be refl
whole_format S32Le le be = tt
whole_format S32Be le be = tt
whole_format S24Le le be = tt
whole_format S24Be le be = tt
whole_format S24In32Le le be = tt
whole_format S24In32Be le be = tt

size_few : (format : Format) → size_of format ≤ 4
size_few U8 = omega arith
size_few Alaw = omega arith
size_few Ulaw = omega arith
size_few S16Le = omega arith
size_few S16Be = omega arith
size_few Float32Le = omega arith
size_few Float32Be = omega arith
size_few S32Le = omega arith
size_few S32Be = omega arith
size_few S24Le = omega arith
size_few S24Be = omega arith
size_few S24In32Le = omega arith
size_few S24In32Be = omega arith

-- the bytes of so many frames, by their samples: four each at most
pub bytes_are : (spec : Spec) (frames : ℕ) → frames * frame_size_of spec ≡ size_of spec.format * (frames * spec.channels)
bytes_are spec frames =
    sym (mul_assoc frames (size_of spec.format) spec.channels) ∙ ap (λ (n : ℕ). n * spec.channels) (mul_comm frames (size_of spec.format)) ∙ mul_assoc (size_of spec.format) frames spec.channels

pub bytes_few : (spec : Spec) (frames : ℕ) → frames * spec.channels ≤ 256 → frames * frame_size_of spec ≤ 1024
bytes_few spec frames few = omega (arith, bytes_are spec frames, mul-le-mul (size_few spec.format) few)

-- a frame has a byte
pub frame_some : (spec : Spec) → 1 ≤ spec.channels → 1 ≤ frame_size_of spec
frame_some spec some = mul-le-mul (size_of-some spec.format) some
