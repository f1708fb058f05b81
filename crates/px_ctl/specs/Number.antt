-- Decimal numbers in words.
use Rattle.std.specs.Prelude.{ℕ, Bool, ◌+◌, ◌*◌, ◌-◌, ◌^◌, cond, ◌&&◌, nat_le, nat_lt, List, [], ◌∷◌, Option, None, Some}

abbrev pub is_digit : ℕ → Bool
is_digit c = nat_le 0x30 c && nat_le c 0x39

-- the number of decimal digits that follow those read so far, whose number is the first argument
abbrev pub digits_behind : ℕ → List ℕ → Option ℕ
digits_behind n [] = Some n
digits_behind n (c ∷ rest) = cond (is_digit c) (digits_behind (n * 10 + (c - 0x30)) rest) None

-- the number that a word writes: decimal digits alone, at least one
abbrev pub number_in : List ℕ → Option ℕ
number_in [] = None
number_in (c ∷ rest) = digits_behind 0 (c ∷ rest)

abbrev pub in_64_bits : Option ℕ → Option ℕ
in_64_bits None = None
in_64_bits (Some n) = cond (nat_lt n (2 ^ 64)) (Some n) None

abbrev pub in_32_bits : Option ℕ → Option ℕ
in_32_bits None = None
in_32_bits (Some n) = cond (nat_le n 0xFFFFFFFF) (Some n) None
