-- Up to 32 numbers, stored in an array.
use Rattle.std.specs.Prelude.{ℕ, List, ◌≡◌, ◌-◌, ◌++◌, ◌≤◌, length, take, replicate}

-- the list padded with zeros to 32 numbers
abbrev pub padded : List ℕ → List ℕ
padded numbers = numbers ++ replicate (32 - length numbers) 0

-- the first `count` of 32 numbers are held, and the others are zeros
pub record IsHeld (count : ℕ) (numbers : List ℕ) : Type 0 where
  pub room : count ≤ 32
  pub held : length (take count numbers) ≡ count
  pub rest : padded (take count numbers) ≡ numbers
