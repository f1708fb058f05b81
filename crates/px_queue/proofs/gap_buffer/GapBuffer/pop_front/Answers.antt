use Rattle.std.proofs.Common.{◌≡◌, ◌<◌, ℕ, List, [], ◌++◌, length, drop, ap, sym, ◌∙◌, arith, Option}
use Rattle.std.specs.Prelude.{IsSome}
use Rattle.std.specs.Option.{option_to_list}
use Rattle.px_queue.specs.Laid.{Laid, Parted}
use Rattle.px_queue.proofs.Gapped.{dropped_first, nothing_there}
use Rattle.px_queue.proofs.gap_buffer.GapBuffer.pop_front.Goals as goal

pub returns-then-is_empty-clause-behind : goal.returns-then-is_empty-clause-behind
returns-then-is_empty-clause-behind c =
    let ls : List Laid = c.self.inside.left.items in
    let rs : List Laid = c.self.inside.right.items in
    let left : List Laid = c.pop_front.new.self.items in
    let n : ℕ = c.self.inside.count in
    let o : Option Laid = c.pop_front.result in
    let empty : length ls ≡ 0 = grind (arith, c.is_empty.ensures, c.if-is_empty.true) in
    let none : ls ≡ [] = nothing_there ls empty in
    let is : ls ++ rs ≡ option_to_list o ++ (ls ++ left) =
    ap (λ (xs : List Laid). xs ++ rs) none ∙ c.pop_front.ensures.items ∙ sym (ap (λ (xs : List Laid). option_to_list o ++ (xs ++ left)) none) in
    let some : 0 < n = omega (arith, c.if-self-eq0.false) in
    let there : 0 < length rs = omega (arith, c.self.invariant.0, empty, some) in
    sym (dropped_first o (ls ++ rs) (ls ++ left) n (c.pop_front.ensures.variant.1 there) is some) ∙ ap (λ (p : Parted). p.behind) c.self.view_is
