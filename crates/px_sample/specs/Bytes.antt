-- Numbers and the bytes that spell them.
use Rattle.std.specs.Prelude.{ℕ, ◌+◌, ◌-◌, ◌*◌, ◌/◌, ◌%◌, ◌^◌, zero, suc, List, [], ◌∷◌, reverse, nat_lt, if◌then◌else◌, ℤ, pos, negsuc, ◌-ℤ◌}

-- the number that bytes spell, the least significant first
abbrev pub little_endian : List ℕ → ℕ
little_endian [] = 0
little_endian (byte ∷ rest) = byte + 256 * little_endian rest

-- the number that bytes spell, the most significant first
abbrev pub big_endian : List ℕ → ℕ
big_endian bytes = little_endian (reverse bytes)

-- the lowest n bytes of a number, the least significant first
abbrev pub little_bytes : ℕ → ℕ → List ℕ
little_bytes zero n = []
little_bytes (suc count) n = n % 256 ∷ little_bytes count (n / 256)

-- the lowest n bytes of a number, the most significant of them first
abbrev pub big_bytes : ℕ → ℕ → List ℕ
big_bytes count n = reverse (little_bytes count n)

-- the signed number that n bits mean in two's complement
abbrev pub signed_of : ℕ → ℕ → ℤ
signed_of bits n = if nat_lt n (2 ^ (bits - 1)) then pos n else pos n -ℤ pos (2 ^ bits)

-- a signed number in n bits of two's complement
abbrev pub unsigned_of : ℕ → ℤ → ℕ
unsigned_of bits (pos n) = n % 2 ^ bits
unsigned_of bits (negsuc n) = 2 ^ bits - 1 - n % 2 ^ bits
