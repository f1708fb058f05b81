-- Software volumes of PulseAudio: whole numbers, where NORM leaves the sound as it is.
use Rattle.std.specs.Prelude.{ℕ, ◌+◌, ◌*◌, ◌/◌, ◌^◌, ◌<◌, ◌≤◌, List, length, All, min, nat_eq, if◌then◌else◌}

-- the volume that leaves the sound as it is, and the greatest
abbrev pub norm : ℕ
norm = 0x10000

abbrev pub greatest : ℕ
greatest = 0x7FFFFFFF

-- the product of two volumes, rounded to the nearest, at most the greatest
abbrev pub product_of : ℕ → ℕ → ℕ
product_of a b = min ((a * b + norm / 2) / norm) greatest

-- the volume that b must be multiplied by to give a: their quotient, rounded to the nearest, at most the greatest; 0 where b is 0
abbrev pub quotient_of : ℕ → ℕ → ℕ
quotient_of a b = if nat_eq b 0 then 0 else min ((a * norm + b / 2) / b) greatest

-- the linear factor of a volume, in 16.16: its cube, rounded to the nearest, at most the greatest
abbrev pub cube_of : ℕ → ℕ
cube_of v = min ((v * v * v + 2 ^ 31) / 2 ^ 32) greatest

-- the volumes of a stream or a sink: 1 to 32, one a channel
pub record IsChannelVolume (volumes : List ℕ) : Type 0 where
  pub some : 0 < length volumes
  pub few : length volumes ≤ 32
  pub bounded : All (λ v. v ≤ greatest) volumes
