-- Four sums in lanes.
use Rattle.std.proofs.Common.{◌≡◌, ℕ, ◌^◌, ◌<◌, ◌≤◌, Bool, List, length, get_or, ℤ, pos, w64, FitsSigned, to_z, of_z}
use Rattle.px_kernel.specs.Kernel.{AreReady, changed, changed_at, scaled}
use Rattle.px_kernel.proofs.Shares.{lane_sum_fits, lane_sum, lane_written}

-- what lane k of four holds, by machine words
abbrev pub lane_at : Bool → List ℤ → List ℤ → ℕ → ℕ → ℤ
lane_at add sums values factor k = changed add (to_z w64 (of_z w64 (get_or sums k (pos 0)))) (to_z w64 (of_z w64 (scaled (get_or values k (pos 0)) factor)))

module _ (add : Bool) (sums values : List ℤ) (factor from : ℕ) (ready : AreReady add sums values factor from) (small : factor < 2 ^ 31) where
  pub fits_at : (k : ℕ) → from ≤ k → k < length sums → FitsSigned w64 (lane_at add sums values factor k)
  fits_at k above less =
      lane_sum_fits add (get_or sums k (pos 0)) (get_or values k (pos 0)) factor (ready.room k above less) (ready.words k above less) small (ready.fit k above less)

  pub written_at : (k : ℕ) → from ≤ k → k < length sums → FitsSigned w64 (to_z w64 (of_z w64 (lane_at add sums values factor k)))
  written_at k above less =
      lane_written add (get_or sums k (pos 0)) (get_or values k (pos 0)) factor (ready.room k above less) (ready.words k above less) small (ready.fit k above less)

  pub is_at : (k : ℕ) → from ≤ k → k < length sums → to_z w64 (of_z w64 (lane_at add sums values factor k)) ≡ changed_at add sums values factor k
  is_at k above less =
      lane_sum add (get_or sums k (pos 0)) (get_or values k (pos 0)) factor (ready.room k above less) (ready.words k above less) small (ready.fit k above less)
