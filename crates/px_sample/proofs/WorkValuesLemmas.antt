-- Work values of runs that are joined, measured and read at a place, and the bytes that carry them.
use Rattle.std.proofs.Common.{◌≡◌, ℕ, ◌+◌, ◌*◌, ◌/◌, ◌<◌, ◌≤◌, zero, suc, List, [], ◌∷◌, ◌++◌, length, map, take, drop, get_or, refl, ap, sym, ◌∙◌, subst, arith, ℤ}
use Rattle.std.proofs.Math.Nat.{add-mul-div_left}
use Rattle.std.proofs.lemmas.List.{length-map, map-append, get_or-map, length-append, length-drop, take-append-le, drop-append-le, drop-drop}
use Rattle.std.proofs.lemmas.Grind.{flat_map-append}
use Rattle.std.specs.Simd.{first_chunks}
use Rattle.px_sample.specs.declared.format.Format.{Format}
use Rattle.px_sample.specs.declared.format.Format.TheVariants.{Alaw, Ulaw, Float32Le, Float32Be}
use Rattle.px_sample.specs.Format.{size_of, IsLinear}
use Rattle.px_sample.specs.WorkValue.{work_value_of, work_values_of, packed_sample, samples_of, packed_of}
use Rattle.px_sample.proofs.FormatLemmas.{size_of-some}
use Rattle.px_sample.proofs.RunLemmas.{whole_samples}

length-first_chunks : {A : Type 0} (size count : ℕ) (xs : List A) → length (first_chunks size count xs) ≡ count
length-first_chunks size zero xs = refl
length-first_chunks size (suc count) xs = ap (λ n. suc n) (length-first_chunks size count (drop size xs))

get_or-first_chunks : {A : Type 0} (size count : ℕ) (xs : List A) (i : ℕ) (d : List A) → i < count →
    get_or (first_chunks size count xs) i d ≡ take size (drop (i * size) xs)
get_or-first_chunks size zero xs i d below = absurd (omega arith)
get_or-first_chunks size (suc count) xs zero d below =
    let none : 0 * size ≡ 0 = omega arith in ap (λ n. take size (drop n xs)) (sym none)
get_or-first_chunks size (suc count) xs (suc i) d below =
    let next : size + i * size ≡ suc i * size = omega arith in
    get_or-first_chunks size count (drop size xs) i d (omega arith)
    ∙ ap (take size) (drop-drop (i * size) size xs ∙ ap (λ n. drop n xs) next)

first_chunks-append : {A : Type 0} (size m n : ℕ) (xs ys : List A) → length xs ≡ size * m →
    first_chunks size (m + n) (xs ++ ys) ≡ first_chunks size m xs ++ first_chunks size n ys
first_chunks-append size zero n [] ys whole =
    let none : 0 + n ≡ n = omega arith in ap (λ k. first_chunks size k ys) none
first_chunks-append size zero n (x ∷ xs) ys whole = absurd (omega arith)
first_chunks-append size (suc m) n xs ys whole =
    let next : suc m + n ≡ suc (m + n) = omega arith in
    let room : size ≤ length xs = omega arith in
    let rest : length (drop size xs) ≡ size * m = omega (arith, length-drop size xs) in
    ap (λ k. first_chunks size k (xs ++ ys)) next
    ∙ ap (λ first. first ∷ first_chunks size (m + n) (drop size (xs ++ ys))) (take-append-le size xs ys room)
    ∙ ap (λ others. take size xs ∷ first_chunks size (m + n) others) (drop-append-le size xs ys room)
    ∙ ap (λ others. take size xs ∷ others) (first_chunks-append size m n (drop size xs) ys rest)

-- one value a sample
pub length-work_values_of : (format : Format) (bytes : List ℕ) → length (work_values_of format bytes) ≡ length bytes / size_of format
length-work_values_of format bytes =
    length-map (samples_of format bytes) (work_value_of format)
    ∙ length-first_chunks (size_of format) (length bytes / size_of format) bytes

-- the value of each sample stands at its place
pub get_or-work_values_of : (format : Format) (bytes : List ℕ) (i : ℕ) (d : ℤ) → i < length bytes / size_of format →
    get_or (work_values_of format bytes) i d ≡ work_value_of format (take (size_of format) (drop (i * size_of format) bytes))
get_or-work_values_of format bytes i d below =
    get_or-map (work_value_of format) (samples_of format bytes) i [] d
    (subst (λ n. i < n) (sym (length-first_chunks (size_of format) (length bytes / size_of format) bytes)) below)
    ∙ ap (work_value_of format) (get_or-first_chunks (size_of format) (length bytes / size_of format) bytes i [] below)

-- whole samples before others
pub work_values_of-append : (format : Format) (before after : List ℕ) (count : ℕ) → length before ≡ size_of format * count →
    work_values_of format (before ++ after) ≡ work_values_of format before ++ work_values_of format after
work_values_of-append format before after count whole =
    let size : ℕ = size_of format in
    let rest : ℕ = length after / size in
    let own : length before / size ≡ count = whole_samples size count (length before) (size_of-some format) whole in
    let long : length (before ++ after) ≡ length after + size * count = omega (arith, length-append before after) in
    let all : length (before ++ after) / size ≡ count + rest =
    let sum = ap (λ n. n / size) long ∙ add-mul-div_left (length after) count (size_of-some format) in omega (arith, sum) in
    ap (λ n. map (work_value_of format) (first_chunks size n (before ++ after))) all
    ∙ ap (map (work_value_of format)) (first_chunks-append size count rest before after whole)
    ∙ map-append (work_value_of format) (first_chunks size count before) (first_chunks size rest after)
    ∙ ap (λ n. map (work_value_of format) (first_chunks size n before) ++ work_values_of format after) (sym own)

pub packed_of-append : (format : Format) (before after : List ℤ) →
    packed_of format (before ++ after) ≡ packed_of format before ++ packed_of format after
packed_of-append format before after = flat_map-append (packed_sample format) before after

length-packed_sample : (format : Format) (value : ℤ) → IsLinear format → length (packed_sample format value) ≡ size_of format
length-packed_sample Alaw value linear = absurd linear
length-packed_sample Ulaw value linear = absurd linear
length-packed_sample Float32Le value linear = absurd linear
length-packed_sample Float32Be value linear = absurd linear
length-packed_sample _ value linear = refl

-- a sample for each value
pub length-packed_of : (format : Format) (values : List ℤ) → IsLinear format →
    length (packed_of format values) ≡ size_of format * length values
length-packed_of format [] linear = omega arith
length-packed_of format (value ∷ rest) linear =
    let first = length-packed_sample format value linear in
    let others = length-packed_of format rest linear in
    omega (arith, length-append (packed_sample format value) (packed_of format rest))
