-- The two laws of ITU-T G.711. A code has a sign, a segment of three bits and a step of four.
use Rattle.std.specs.Prelude.{ℕ, ◌+◌, ◌-◌, ◌*◌, ◌/◌, ◌%◌, ◌^◌, zero, suc, bit_xor, nat_eq, if◌then◌else◌, ℤ, pos, neg_ℤ}

-- the segment and the step of a code
abbrev pub segment_of : ℕ → ℕ
segment_of code = code / 16 % 8

abbrev pub step_of : ℕ → ℕ
step_of code = code % 16

-- mu-law in 14 bits: the segments double in height, and begin so that the first step is about 0
abbrev pub mu_law_magnitude : ℕ → ℕ → ℕ
mu_law_magnitude segment step = (2 * step + 33) * 2 ^ segment - 33

-- A-law in 13 bits: the first two segments have steps of one height, which then doubles
abbrev pub a_law_magnitude : ℕ → ℕ → ℕ
a_law_magnitude zero step = 2 * step + 1
a_law_magnitude (suc segment) step = (2 * step + 33) * 2 ^ segment

-- mu-law codes are sent with every bit inverted, and the highest bit means negative; four 14-bit steps are one in 16 bits
abbrev pub mu_law_of : ℕ → ℤ
mu_law_of code =
    let plain = 255 - code in
    let magnitude = 4 * mu_law_magnitude (segment_of plain) (step_of plain) in
    if nat_eq (plain / 128) 1 then neg_ℤ (pos magnitude) else pos magnitude

-- A-law codes are sent with every other bit inverted, and the highest bit means positive
abbrev pub a_law_of : ℕ → ℤ
a_law_of code =
    let plain = bit_xor code 0x55 in
    let magnitude = 8 * a_law_magnitude (segment_of plain) (step_of plain) in
    if nat_eq (plain / 128) 1 then pos magnitude else neg_ℤ (pos magnitude)
