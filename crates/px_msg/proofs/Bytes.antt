-- Whole frames in so many bytes have no more bytes.
use Rattle.std.proofs.Common.{◌≤◌, ◌*◌, ◌/◌, ℕ, zero, suc, arith, max}
use Rattle.std.proofs.Math.Nat.{div-mul-le_self}

-- so many frames, or one, where both fit
pub at_least_one_fits : (frames size most : ℕ) → frames * size ≤ most → size ≤ most → max frames 1 * size ≤ most
at_least_one_fits zero size most fits small = grind (arith, fits, small)
at_least_one_fits (suc n) size most fits small = grind (arith, fits, small)

pub whole_frames_fit : (bytes size most : ℕ) → bytes ≤ most → size ≤ most → max (bytes / size) 1 * size ≤ most
whole_frames_fit bytes size most within small =
    at_least_one_fits (bytes / size) size most (let h = div-mul-le_self bytes size in omega (arith, h, within)) small
