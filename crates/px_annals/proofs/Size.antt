-- Sizes that are added up, one after the other.
use Rattle.std.proofs.Common.{◌≡◌, ℕ, ◌+◌, ◌^◌, ◌<◌, ◌≤◌, List, ◌∷◌, length, drop, arith}
use Rattle.std.specs.List.{sum_by}
use Rattle.std.proofs.lemmas.List.{at_drop_all}
use Rattle.std.proofs.lemmas.List.Sums.{sum_by-cons}
use Rattle.px_annals.specs.declared.stream.PlainFrame.{PlainFrame}
use Rattle.px_annals.specs.declared.message.PlainMsg.{PlainMsg}
use Rattle.px_annals.specs.Size.{at_most, bytes_of_frames, bytes_of_message, size_of_messages}

pub more_frames : (bytes : ℕ) (frame : PlainFrame) (more : List PlainFrame)
    → at_most (at_most (bytes + length frame.bytes) + bytes_of_frames more) ≡ at_most (bytes + bytes_of_frames (frame ∷ more))
more_frames bytes frame more =
    let split = sum_by-cons (λ f. length (PlainFrame.bytes f)) frame more in
    omega (arith, split)

pub more_messages : (bytes : ℕ) (m : PlainMsg) (more : List PlainMsg)
    → at_most (at_most (at_most (bytes + 64) + at_most (bytes_of_message m)) + size_of_messages more) ≡ at_most (bytes + size_of_messages (m ∷ more))
more_messages bytes m more =
    let split = sum_by-cons (λ m. 64 + bytes_of_message m) m more in
    omega (arith, split)

-- what was added up once nothing is left
pub ended : {X : Type 0} (size : X → ℕ) (bytes i : ℕ) (xs : List X) → at_most (bytes + sum_by size (drop i xs)) ≡ at_most (sum_by size xs)
    → bytes < 2 ^ 64 → length xs ≤ i → bytes ≡ at_most (sum_by size xs)
ended size bytes i xs same small over =
    let none = at_drop_all (sum_by size) xs i over in
    omega (arith, same, none, small)
