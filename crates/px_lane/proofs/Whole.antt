-- The frames of bytes are whole.
use Rattle.std.proofs.Common.{ℕ, zero, suc, ◌*◌, ◌≤◌, List, length, drop, arith, length-drop}
use Rattle.std.proofs.Math.Nat.{add-mul}
use Rattle.std.proofs.lemmas.List.{length-take-le}
use Rattle.px_model.specs.Frame.{frames_of}
use Rattle.px_lane.specs.Whole.{AreFramesOf}

pub frames_within : (size n : ℕ) (bytes : List ℕ) → n * size ≤ length bytes → AreFramesOf size (frames_of size n bytes)
frames_within size zero bytes fit = tt
frames_within size (suc n) bytes fit =
    let first : size ≤ length bytes = omega (arith, fit, add-mul 1 n size) in
    (length-take-le size bytes first, frames_within size n (drop size bytes) (omega (arith, fit, add-mul 1 n size, length-drop size bytes)))
