-- A list with zeros after it, up to 32 numbers.
use Rattle.std.proofs.Common.{◌≡◌, ℕ, ◌≤◌, List, ◌++◌, length, take, drop, ap, ◌∙◌, sym}
use Rattle.std.proofs.Math.Seq.{take-append_seam}
use Rattle.std.proofs.Math.ListN.{replicate}
use Rattle.std.proofs.lemmas.List.{drop-replicate}
use Rattle.px_chmap.specs.Held.{IsHeld, padded}

-- numbers that are written over the first of 32 zeros are held
pub is_held : (numbers : List ℕ) → length numbers ≤ 32 →
    IsHeld (length numbers) (numbers ++ drop (length numbers) (replicate 32 0))
is_held numbers fits =
    let first : take (length numbers) (numbers ++ drop (length numbers) (replicate 32 0)) ≡ numbers =
    take-append_seam numbers (drop (length numbers) (replicate 32 0)) in
    record {
      room = fits;
      held = ap length first;
      rest = ap padded first ∙ ap (λ zeros. numbers ++ zeros) (sym (drop-replicate (length numbers) 32 0));
    }
