-- Sums, clipped.
use Rattle.std.specs.Prelude.{◌≡◌, ℕ, ℤ, pos, negsuc, ◌+◌, ◌<◌, min, List, [], ◌∷◌}
use Rattle.px_sample.specs.declared.format.Width.{Width}
use Rattle.px_sample.specs.declared.format.Width.TheVariants.{W8, W16, W32}
use Rattle.px_kernel.specs.Kernel.{at}

-- the number nearest to this one from -most - 1 to most
abbrev pub clipped : ℕ → ℤ → ℤ
clipped most (pos n) = pos (min n most)
clipped most (negsuc n) = negsuc (min n most)

-- the greatest value of a width
abbrev pub most_of : Width → ℕ
most_of W8 = 127
most_of W16 = 32767
most_of W32 = 2147483647

-- four sums, each clipped, from this place on
abbrev pub clipped_from : List ℤ → ℕ → ℕ → List ℤ
clipped_from sums most from =
    clipped most (at sums from) ∷ clipped most (at sums (from + 1)) ∷ clipped most (at sums (from + 2)) ∷ clipped most (at sums (from + 3)) ∷ []

-- the first n are clipped
abbrev pub Clips : ℕ → List ℤ → ℕ → List ℤ → Type 0
Clips most sums count out = (k : ℕ) → k < count → at out k ≡ clipped most (at sums k)
