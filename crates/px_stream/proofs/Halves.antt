-- A frame of two samples of 16 bits, read as one word.
use Rattle.std.proofs.Common.{◌≡◌, ℕ, ◌+◌, ◌-◌, ◌*◌, ◌/◌, ◌%◌, ◌<◌, ◌≤◌, List, [], ◌∷◌, length, take, drop, get_or, ap, sym, ◌∙◌, arith, drop-drop, w16, w32}
use Rattle.std.proofs.lemmas.List.{drop-take, take-take}
use Rattle.std.specs.Int.{to_le_bytes, from_le_bytes}
use Rattle.std.specs.Simd.{first_chunks}
use Rattle.px_sample.proofs.RunLemmas.{whole_samples}
use Rattle.px_stream.proofs.Sounds.{chunk_at, length_chunks}

two : (a b c d : ℕ) → a ≡ c → b ≡ d → a ∷ b ∷ [] ≡ c ∷ d ∷ []
two a b c d first second = ap (λ (x : ℕ). x ∷ b ∷ []) first ∙ ap (λ (x : ℕ). c ∷ x ∷ []) second

-- the lower half is the first sample
pub lower_half : (pair : List ℕ) (word : ℕ) → length pair ≡ 4 → ((i : ℕ) → get_or pair i 0 < 256) → word ≡ from_le_bytes w32 pair
    → to_le_bytes w16 (word % 65536) ≡ take 2 pair
lower_half (a ∷ b ∷ c ∷ d ∷ []) word size small is =
    let here = small 0 in
    let next = small 1 in
    let third = small 2 in
    let last = small 3 in
    two _ _ a b (omega (arith, is, here, next, third, last)) (omega (arith, is, here, next, third, last))
lower_half [] word size small is = absurd (omega (arith, size))
lower_half (a ∷ []) word size small is = absurd (omega (arith, size))
lower_half (a ∷ b ∷ []) word size small is = absurd (omega (arith, size))
lower_half (a ∷ b ∷ c ∷ []) word size small is = absurd (omega (arith, size))
lower_half (a ∷ b ∷ c ∷ d ∷ e ∷ rest) word size small is = absurd (omega (arith, size))

-- the upper half is the second
pub upper_half : (pair : List ℕ) (word : ℕ) → length pair ≡ 4 → ((i : ℕ) → get_or pair i 0 < 256) → word ≡ from_le_bytes w32 pair
    → to_le_bytes w16 (word / 65536) ≡ take 2 (drop 2 pair)
upper_half (a ∷ b ∷ c ∷ d ∷ []) word size small is =
    let here = small 0 in
    let next = small 1 in
    let third = small 2 in
    let last = small 3 in
    two _ _ c d (omega (arith, is, here, next, third, last)) (omega (arith, is, here, next, third, last))
upper_half [] word size small is = absurd (omega (arith, size))
upper_half (a ∷ []) word size small is = absurd (omega (arith, size))
upper_half (a ∷ b ∷ []) word size small is = absurd (omega (arith, size))
upper_half (a ∷ b ∷ c ∷ []) word size small is = absurd (omega (arith, size))
upper_half (a ∷ b ∷ c ∷ d ∷ e ∷ rest) word size small is = absurd (omega (arith, size))

-- one of the two samples of a frame is one of all
half_at : (channel j : ℕ) (bytes : List ℕ) → channel < 2 → take 2 (drop (channel * 2) (take 4 (drop (j * 4) bytes))) ≡ take 2 (drop ((j * 2 + channel) * 2) bytes)
half_at channel j bytes less =
    let parts : 4 ≡ channel * 2 + (4 - channel * 2) = omega (arith, less) in
    let same : j * 4 + channel * 2 ≡ (j * 2 + channel) * 2 = omega arith in
    ap (λ (n : ℕ). take 2 (drop (channel * 2) (take n (drop (j * 4) bytes)))) parts
    ∙ ap (λ (xs : List ℕ). take 2 xs) (drop-take (channel * 2) (4 - channel * 2) (drop (j * 4) bytes))
    ∙ take-take 2 (4 - channel * 2) (drop (channel * 2) (drop (j * 4) bytes)) (omega (arith, less))
    ∙ ap (λ (xs : List ℕ). take 2 xs) (drop-drop (channel * 2) (j * 4) bytes)
    ∙ ap (λ (n : ℕ). take 2 (drop n bytes)) same

pub half_got : (frames channel j : ℕ) (bytes : List ℕ) (pairs : List (List ℕ)) → pairs ≡ first_chunks 4 (length bytes / 4) bytes → length bytes ≡ 4 * frames
    → channel < 2 → j < frames → take 2 (drop (channel * 2) (get_or pairs j [])) ≡ take 2 (drop ((j * 2 + channel) * 2) bytes)
half_got frames channel j bytes pairs is size two less =
    let many : length bytes / 4 ≡ frames = whole_samples 4 frames (length bytes) (omega arith) size in
    ap (λ (xs : List (List ℕ)). take 2 (drop (channel * 2) (get_or xs j []))) is
    ∙ ap (λ (xs : List ℕ). take 2 (drop (channel * 2) xs)) (chunk_at 4 (length bytes / 4) j bytes (omega (arith, less, many)))
    ∙ half_at channel j bytes two

-- the pairs are as many as the frames
pub pairs_many : (frames : ℕ) (bytes : List ℕ) (pairs : List (List ℕ)) → pairs ≡ first_chunks 4 (length bytes / 4) bytes → length bytes ≡ 4 * frames → frames ≤ length pairs
pairs_many frames bytes pairs is size =
    omega (arith, ap (λ (xs : List (List ℕ)). length xs) is, length_chunks 4 (length bytes / 4) bytes, whole_samples 4 frames (length bytes) (omega arith) size)
