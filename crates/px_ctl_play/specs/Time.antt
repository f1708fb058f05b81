-- Frames in microseconds.
use Rattle.std.specs.Prelude.{ℕ, ◌*◌, ◌/◌}

-- `frames` frames at `rate`
abbrev pub microseconds : ℕ → ℕ → ℕ
microseconds rate frames = frames * 1000000 / rate
