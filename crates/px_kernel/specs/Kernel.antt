-- The sums that the loops over samples compute, sample by sample.
use Rattle.std.specs.Prelude.{◌≡◌, ℕ, ℤ, pos, ◌+ℤ◌, ◌-ℤ◌, ◌*ℤ◌, ◌<◌, ◌≤◌, Bool, true, false, List, [], ◌∷◌, ◌+◌, length, slice_index_or, FitsSigned}
use Rattle.std.specs.Int.{w8, w16, w32, w64, int_div_euclid}
use Rattle.std.specs.Int.{Width as Bits}
use Rattle.px_sample.specs.declared.format.Width.{Width}
use Rattle.px_sample.specs.declared.format.Width.TheVariants.{W8, W16, W32}

-- a value times a factor in 65536ths, rounded towards minus infinity
abbrev pub scaled : ℤ → ℕ → ℤ
scaled value factor = int_div_euclid (value *ℤ pos factor) (pos 65536)

-- a sum with a share added or subtracted
abbrev pub changed : Bool → ℤ → ℤ → ℤ
changed true sum share = sum +ℤ share
changed false sum share = sum -ℤ share

-- number k of a run
abbrev pub at : List ℤ → ℕ → ℤ
at run k = slice_index_or run k (pos 0)

-- sum k once the share of value k, by the factor, is added or subtracted
abbrev pub changed_at : Bool → List ℤ → List ℤ → ℕ → ℕ → ℤ
changed_at add sums values factor k = changed add (at sums k) (scaled (at values k) factor)

-- from this place on each number fits, and each new sum does
pub record AreReady (add : Bool) (sums values : List ℤ) (factor from : ℕ) : Type 0 where
  pub room : (k : ℕ) → from ≤ k → k < length sums → FitsSigned w64 (at sums k)
  pub words : (k : ℕ) → from ≤ k → k < length sums → FitsSigned w32 (at values k)
  pub fit : (k : ℕ) → from ≤ k → k < length sums → FitsSigned w64 (changed_at add sums values factor k)

-- the sums from one place to another are changed, and no others
pub record Changes (add : Bool) (old values : List ℤ) (factor from to : ℕ) (new : List ℤ) : Type 0 where
  pub long : length new ≡ length old
  pub inside : (k : ℕ) → from ≤ k → k < to → at new k ≡ changed_at add old values factor k
  pub before : (k : ℕ) → k < from → at new k ≡ at old k
  pub behind : (k : ℕ) → to ≤ k → at new k ≡ at old k

-- the shares of four values, from this place on
abbrev pub shares_from : List ℤ → ℕ → ℕ → List ℤ
shares_from values factor from =
    scaled (at values from) factor ∷ scaled (at values (from + 1)) factor ∷ scaled (at values (from + 2)) factor ∷ scaled (at values (from + 3)) factor ∷ []

-- the bits of a width
abbrev pub bits_of : Width → Bits
bits_of W8 = w8
bits_of W16 = w16
bits_of W32 = w32
