-- Packing what was unpacked gives the bytes back.
use Rattle.std.proofs.Common.{◌≡◌, ℕ, ◌*◌, ◌/◌, ◌%◌, ◌^◌, ◌<◌, ◌≤◌, ◌≢◌, zero, suc, List, [], ◌∷◌, ◌++◌, length, map, take, drop, reverse, refl, ap, ◌∙◌, subst, arith, pos, ◌+ℤ◌, ◌-ℤ◌, ◌*ℤ◌}
use Rattle.std.proofs.Math.Nat.{mod-eq_of_lt, div-mul-le_self}
use Rattle.std.proofs.lemmas.Int.{ints}
use Rattle.std.proofs.lemmas.List.Elements.{All-cons, All-take, All-drop}
use Rattle.std.proofs.lemmas.List.{length-take-le, length-drop, take-append-drop}
use Rattle.std.specs.Int.{int_div_euclid}
use Rattle.std.specs.List.{flat_map}
use Rattle.std.specs.Simd.{first_chunks}
use Rattle.px_sample.specs.declared.format.Format.{Format}
use Rattle.px_sample.specs.declared.format.Format.TheVariants.{U8, Alaw, Ulaw, S16Le, S16Be, Float32Le, Float32Be, S32Le, S32Be, S24Le, S24Be, S24In32Le, S24In32Be}
use Rattle.px_sample.specs.Format.{size_of, IsLinear}
use Rattle.px_sample.specs.Bytes.{little_endian, big_endian, little_bytes, big_bytes, signed_of, unsigned_of}
use Rattle.px_sample.specs.WorkValue.{work_value_of, work_values_of, packed_sample, samples_of, packed_of, cleared_of}
use Rattle.px_sample.proofs.BytesLemmas.{AreBytes, little_bytes-little_endian, little_endian-below, big_bytes-big_endian, big_endian-below, unsigned_signed, upper_bits}
use Rattle.px_sample.proofs.FormatLemmas.{size_of-some}
use Rattle.px_sample.proofs.RunLemmas.{whole_samples}

le_below : (k : ℕ) (sample : List ℕ) → length sample ≡ k → AreBytes sample → little_endian sample < 256 ^ k
le_below k sample size are = subst (λ n. little_endian sample < 256 ^ n) size (little_endian-below sample are)

be_below : (k : ℕ) (sample : List ℕ) → length sample ≡ k → AreBytes sample → big_endian sample < 256 ^ k
be_below k sample size are = subst (λ n. big_endian sample < 256 ^ n) size (big_endian-below sample are)

le_back : (k : ℕ) (sample : List ℕ) → length sample ≡ k → AreBytes sample → little_bytes k (little_endian sample) ≡ sample
le_back k sample size are = subst (λ n. little_bytes n (little_endian sample) ≡ sample) size (little_bytes-little_endian sample are)

be_back : (k : ℕ) (sample : List ℕ) → length sample ≡ k → AreBytes sample → big_bytes k (big_endian sample) ≡ sample
be_back k sample size are = subst (λ n. big_bytes n (big_endian sample) ≡ sample) size (big_bytes-big_endian sample are)

-- 24 bits, shifted to the upper ones of 32 and back
upper_back : (n : ℕ) → n < 2 ^ 24 → unsigned_of 24 (int_div_euclid (signed_of 24 n *ℤ pos 256) (pos 256)) ≡ n
upper_back n fits = ap (unsigned_of 24) (upper_bits (signed_of 24 n)) ∙ unsigned_signed 24 n fits

u8_back : (n : ℕ) → n < 256 → unsigned_of 8 ((pos n -ℤ pos 128) +ℤ pos 128) ≡ n
u8_back n fits =
    let back : (pos n -ℤ pos 128) +ℤ pos 128 ≡ pos n = omega (arith, ints) in
    ap (unsigned_of 8) back ∙ mod-eq_of_lt fits

-- three bytes below one that is passed over
lower_24 : (a b c d : ℕ) → a < 256 → b < 256 → c < 256 →
    little_endian (a ∷ b ∷ c ∷ d ∷ []) % 2 ^ 24 ≡ little_endian (a ∷ b ∷ c ∷ 0 ∷ [])
lower_24 a b c d fits_a fits_b fits_c = omega arith

below_24 : (n : ℕ) → n % 2 ^ 24 < 2 ^ 24
below_24 n = omega arith

cleared_are : (a b c : ℕ) → a < 256 → b < 256 → c < 256 → AreBytes (a ∷ b ∷ c ∷ 0 ∷ [])
cleared_are a b c fits_a fits_b fits_c =
    let byte : ℕ → Type 0 = λ n. n < 256 in
    All-cons byte a (b ∷ c ∷ 0 ∷ []) fits_a (All-cons byte b (c ∷ 0 ∷ []) fits_b
    (All-cons byte c (0 ∷ []) fits_c (All-cons byte 0 [] (omega arith) (λ k d none. absurd (omega arith)))))

-- the lower three of four bytes, written again
cleared_back : (a b c d : ℕ) → a < 256 → b < 256 → c < 256 →
    little_bytes 4 (unsigned_of 24 (int_div_euclid (signed_of 24 (little_endian (a ∷ b ∷ c ∷ d ∷ []) % 2 ^ 24) *ℤ pos 256) (pos 256)))
    ≡ a ∷ b ∷ c ∷ 0 ∷ []
cleared_back a b c d fits_a fits_b fits_c =
    ap (little_bytes 4) (upper_back (little_endian (a ∷ b ∷ c ∷ d ∷ []) % 2 ^ 24) (below_24 (little_endian (a ∷ b ∷ c ∷ d ∷ [])))
    ∙ lower_24 a b c d fits_a fits_b fits_c)
    ∙ little_bytes-little_endian (a ∷ b ∷ c ∷ 0 ∷ []) (cleared_are a b c fits_a fits_b fits_c)

sample_back_24_le : (sample : List ℕ) → length sample ≡ 4 → AreBytes sample →
    packed_sample S24In32Le (work_value_of S24In32Le sample) ≡ cleared_of S24In32Le sample
sample_back_24_le (a ∷ b ∷ c ∷ d ∷ []) size are =
    cleared_back a b c d (are 0 0 (omega arith)) (are 1 0 (omega arith)) (are 2 0 (omega arith))
sample_back_24_le (a ∷ b ∷ c ∷ d ∷ e ∷ rest) size are = absurd (omega arith)
sample_back_24_le (a ∷ b ∷ c ∷ []) size are = absurd (omega arith)
sample_back_24_le (a ∷ b ∷ []) size are = absurd (omega arith)
sample_back_24_le (a ∷ []) size are = absurd (omega arith)
sample_back_24_le [] size are = absurd (omega arith)

sample_back_24_be : (sample : List ℕ) → length sample ≡ 4 → AreBytes sample →
    packed_sample S24In32Be (work_value_of S24In32Be sample) ≡ cleared_of S24In32Be sample
sample_back_24_be (a ∷ b ∷ c ∷ d ∷ []) size are =
    ap reverse (cleared_back d c b a (are 3 0 (omega arith)) (are 2 0 (omega arith)) (are 1 0 (omega arith)))
sample_back_24_be (a ∷ b ∷ c ∷ d ∷ e ∷ rest) size are = absurd (omega arith)
sample_back_24_be (a ∷ b ∷ c ∷ []) size are = absurd (omega arith)
sample_back_24_be (a ∷ b ∷ []) size are = absurd (omega arith)
sample_back_24_be (a ∷ []) size are = absurd (omega arith)
sample_back_24_be [] size are = absurd (omega arith)

pub sample_back : (format : Format) (sample : List ℕ) → IsLinear format → length sample ≡ size_of format →
    AreBytes sample → packed_sample format (work_value_of format sample) ≡ cleared_of format sample
sample_back U8 sample linear size are =
    ap (little_bytes 1) (u8_back (little_endian sample) (le_below 1 sample size are)) ∙ le_back 1 sample size are
sample_back Alaw sample linear size are = absurd linear
sample_back Ulaw sample linear size are = absurd linear
sample_back S16Le sample linear size are =
    ap (little_bytes 2) (unsigned_signed 16 (little_endian sample) (le_below 2 sample size are)) ∙ le_back 2 sample size are
sample_back S16Be sample linear size are =
    ap (big_bytes 2) (unsigned_signed 16 (big_endian sample) (be_below 2 sample size are)) ∙ be_back 2 sample size are
sample_back Float32Le sample linear size are = absurd linear
sample_back Float32Be sample linear size are = absurd linear
sample_back S32Le sample linear size are =
    ap (little_bytes 4) (unsigned_signed 32 (little_endian sample) (le_below 4 sample size are)) ∙ le_back 4 sample size are
sample_back S32Be sample linear size are =
    ap (big_bytes 4) (unsigned_signed 32 (big_endian sample) (be_below 4 sample size are)) ∙ be_back 4 sample size are
sample_back S24Le sample linear size are =
    ap (little_bytes 3) (upper_back (little_endian sample) (le_below 3 sample size are)) ∙ le_back 3 sample size are
sample_back S24Be sample linear size are =
    ap (big_bytes 3) (upper_back (big_endian sample) (be_below 3 sample size are)) ∙ be_back 3 sample size are
sample_back S24In32Le sample linear size are = sample_back_24_le sample size are
sample_back S24In32Be sample linear size are = sample_back_24_be sample size are

run_back : (format : Format) (count : ℕ) (bytes : List ℕ) → IsLinear format → count * size_of format ≤ length bytes → AreBytes bytes →
    flat_map (packed_sample format) (map (work_value_of format) (first_chunks (size_of format) count bytes))
    ≡ flat_map (cleared_of format) (first_chunks (size_of format) count bytes)
run_back format zero bytes linear fits are = refl
run_back format (suc count) bytes linear fits are =
    let size : ℕ = size_of format in
    let first : List ℕ = take size bytes in
    let rest : List ℕ = drop size bytes in
    let size_first : length first ≡ size = length-take-le size bytes (omega arith) in
    let fits_rest : count * size ≤ length rest = omega (arith, length-drop size bytes) in
    ap (λ sample. sample ++ flat_map (packed_sample format) (map (work_value_of format) (first_chunks size count rest)))
    (sample_back format first linear size_first (All-take (λ b. b < 256) size bytes are))
    ∙ ap (λ others. cleared_of format first ++ others)
    (run_back format count rest linear fits_rest (All-drop (λ b. b < 256) size bytes are))

-- the samples of a run make it up
joined : (f : List ℕ → List ℕ) (size count : ℕ) (bytes : List ℕ) → ((s : List ℕ) → f s ≡ s) → length bytes ≡ size * count →
    flat_map f (first_chunks size count bytes) ≡ bytes
joined f size zero [] same long = refl
joined f size zero (byte ∷ rest) same long = absurd (omega arith)
joined f size (suc count) bytes same long =
    let rest : length (drop size bytes) ≡ size * count = omega (arith, length-drop size bytes) in
    ap (λ sample. sample ++ flat_map f (first_chunks size count (drop size bytes))) (same (take size bytes))
    ∙ ap (λ others. take size bytes ++ others) (joined f size count (drop size bytes) same rest)
    ∙ take-append-drop size bytes

-- only 24 bits in 32 have a byte that is cleared
cleared_is : (format : Format) → format ≢ S24In32Le → format ≢ S24In32Be → (sample : List ℕ) → cleared_of format sample ≡ sample
cleared_is S24In32Le not_le not_be sample = absurd (not_le refl)
cleared_is S24In32Be not_le not_be sample = absurd (not_be refl)
cleared_is _ not_le not_be sample = refl

pub cleared_run : (format : Format) (bytes : List ℕ) → IsLinear format → AreBytes bytes →
    packed_of format (work_values_of format bytes) ≡ flat_map (cleared_of format) (samples_of format bytes)
cleared_run format bytes linear are =
    run_back format (length bytes / size_of format) bytes linear (div-mul-le_self (length bytes) (size_of format)) are

pub same_run : (format : Format) (bytes : List ℕ) (count : ℕ) → IsLinear format → AreBytes bytes →
    length bytes ≡ size_of format * count → format ≢ S24In32Le → format ≢ S24In32Be →
    packed_of format (work_values_of format bytes) ≡ bytes
same_run format bytes count linear are whole not_le not_be =
    cleared_run format bytes linear are
    ∙ ap (λ n. flat_map (cleared_of format) (first_chunks (size_of format) n bytes))
    (whole_samples (size_of format) count (length bytes) (size_of-some format) whole)
    ∙ joined (cleared_of format) (size_of format) count bytes (cleared_is format not_le not_be) whole
