-- The shifts by which G.711's codes are read give the values of its formulas: computed at all 256 codes.
use Rattle.std.proofs.Common.{◌≡◌, ℕ, ◌+◌, ◌-◌, ◌*◌, ◌/◌, ◌%◌, ◌^◌, ◌<◌, Bool, true, bit_and, refl}
use Rattle.std.proofs.lemmas.Bool.{agree_below_at, eqb-true, ltb-true}
use Rattle.std.specs.Prelude.{nat_eq, nat_lt, if◌then◌else◌}
use Rattle.px_sample.specs.CompandedPcm.{a_law_magnitude, mu_law_magnitude, segment_of, step_of}

-- what the shifts give
abbrev pub mu_law_shifted : ℕ → ℕ
mu_law_shifted plain = (bit_and plain 15 * 8 % 4294967296 + 132) * 2 ^ (bit_and plain 112 / 16) % 4294967296 - 132

abbrev pub a_law_shifted : ℕ → ℕ
a_law_shifted plain =
    let step = bit_and plain 15 * 16 % 4294967296 in
    if nat_eq (bit_and plain 112 / 16) 0
    then step + 8
    else (step + 264) * 2 ^ (bit_and plain 112 / 16 - 1) % 4294967296

pub mu_law_shifted-is : (plain : ℕ) → plain < 256 →
    mu_law_shifted plain ≡ 4 * mu_law_magnitude (segment_of plain) (step_of plain)
mu_law_shifted-is plain code =
    let same : ℕ → Bool = λ n. nat_eq (mu_law_shifted n) (4 * mu_law_magnitude (segment_of n) (step_of n)) in
    eqb-true _ _ (agree_below_at same (λ _. true) 256 plain refl code)

pub mu_law_shifted-small : (plain : ℕ) → plain < 256 → mu_law_shifted plain < 32768
mu_law_shifted-small plain code =
    let small : ℕ → Bool = λ n. nat_lt (mu_law_shifted n) 32768 in
    ltb-true _ _ (agree_below_at small (λ _. true) 256 plain refl code)

pub a_law_shifted-is : (plain : ℕ) → plain < 256 →
    a_law_shifted plain ≡ 8 * a_law_magnitude (segment_of plain) (step_of plain)
a_law_shifted-is plain code =
    let same : ℕ → Bool = λ n. nat_eq (a_law_shifted n) (8 * a_law_magnitude (segment_of n) (step_of n)) in
    eqb-true _ _ (agree_below_at same (λ _. true) 256 plain refl code)

pub a_law_shifted-small : (plain : ℕ) → plain < 256 → a_law_shifted plain < 32768
a_law_shifted-small plain code =
    let small : ℕ → Bool = λ n. nat_lt (a_law_shifted n) 32768 in
    ltb-true _ _ (agree_below_at small (λ _. true) 256 plain refl code)
