-- Indices of a stream: whole numbers that may be negative, as in PulseAudio's pulsecore/memblockq.c. Their range is own.
use Rattle.std.specs.Prelude.{ℕ, ◌-◌, ◌^◌, ℤ, pos, neg_ℤ, ◌+ℤ◌, ◌-ℤ◌, ◌≤ℤ◌, int_le, Bool, ◌&&◌}
use borrow.Author.Differences.{up, down}

-- the index n frames after i
abbrev pub onward : ℤ → ℕ → ℤ
onward i n = i +ℤ pos n

-- how far a lies above b, 0 where it doesn't
abbrev pub above : ℤ → ℤ → ℕ
above a b = up (a -ℤ b) - down (a -ℤ b)

-- the least and the greatest index
abbrev pub FIRST : ℤ
FIRST = neg_ℤ (pos (2 ^ 60))

abbrev pub LAST : ℤ
LAST = pos (2 ^ 60)

-- i lies in the range of indices, both ends included
abbrev pub IsIndex : ℤ → Type 0
IsIndex i = (FIRST ≤ℤ i) × (i ≤ℤ LAST)

abbrev pub is_index : ℤ → Bool
is_index i = int_le FIRST i && int_le i LAST
