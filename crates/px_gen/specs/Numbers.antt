-- The numbers that a session is generated from: a linear congruential generator of 64 bits, with the multiplier of Knuth's MMIX; a number is the
-- highest 31 bits of a state. Own.
use Rattle.std.specs.Prelude.{ℕ, zero, suc, ◌+◌, ◌*◌, ◌/◌, ◌%◌, ◌^◌, List, [], ◌++◌}
use Rattle.std.specs.Int.{w16, to_le_bytes}

-- the state after a state
unfoldable pub next_state : ℕ → ℕ
next_state x = (x * 6364136223846793005 + 1442695040888963407) % 2 ^ 64

-- the number of a state, and the next one after a state
unfoldable pub number_in : ℕ → ℕ
number_in x = x / 2 ^ 33

abbrev pub next_number : ℕ → ℕ
next_number x = number_in (next_state x)

-- the state after n numbers
abbrev pub state_after : ℕ → ℕ → ℕ
state_after zero x = x
state_after (suc n) x = state_after n (next_state x)

-- a sample in 16 bits, the low byte first: the low bits of a number
abbrev pub sample : ℕ → List ℕ
sample number = to_le_bytes w16 (number % 2 ^ 16)

-- the next n numbers, each as a sample
abbrev pub samples : ℕ → ℕ → List ℕ
samples zero x = []
samples (suc n) x = sample (next_number x) ++ samples n (next_state x)
