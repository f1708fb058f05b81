-- The kept sums of one channel of a sink.
use Rattle.std.specs.Prelude.{◌≡◌, ℕ, ℤ, pos, ◌+◌, ◌-◌, ◌<◌, Bool, List, length, if◌then◌else◌, nat_le, FitsSigned}
use Rattle.std.specs.Int.{w32, w64}
use Rattle.px_kernel.specs.Kernel.{at, changed, scaled}

-- the share of frame k where values begin at frame `from`: 0 before them and past them, where a list has 0
abbrev pub share_from : ℕ → List ℤ → ℕ → ℕ → ℤ
share_from from values factor k = if nat_le from k then scaled (at values (k - from)) factor else pos 0

-- the most frames that a run may hold, and the sums of those that it holds
pub record KeptRun : Type 0 where
  pub depth : ℕ
  pub sums : List ℤ

-- each sum fits 64 bits
abbrev pub AreWords : List ℤ → Type 0
AreWords sums = (k : ℕ) → k < length sums → FitsSigned w64 (at sums k)

-- values whose shares may be added to the sums from frame `from` on, or subtracted, without overflow
pub record AreValues (add : Bool) (sums : List ℤ) (from : ℕ) (values : List ℤ) (factor : ℕ) : Type 0 where
  pub words : (k : ℕ) → k < length values → FitsSigned w32 (at values k)
  pub fit : (k : ℕ) → k < length values → FitsSigned w64 (changed add (at sums (from + k)) (scaled (at values k) factor))

-- sums after these shares were added, or subtracted
pub record RunChanges (add : Bool) (old : List ℤ) (from : ℕ) (values : List ℤ) (factor : ℕ) (new : List ℤ) : Type 0 where
  pub long : length new ≡ length old
  pub sums : (k : ℕ) → k < length old → at new k ≡ changed add (at old k) (share_from from values factor k)
