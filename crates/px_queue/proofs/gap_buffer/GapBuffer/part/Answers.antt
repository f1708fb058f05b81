use Rattle.std.proofs.Common.{◌≡◌, ◌≤◌, ℕ, List, ◌++◌, length, take, drop, ap, ◌∙◌, arith}
use Rattle.px_queue.specs.Laid.{Laid, Parted}
use Rattle.px_queue.proofs.Gapped.{drop_between}
use Rattle.px_queue.proofs.gap_buffer.GapBuffer.part.Goals as goal

pub returns-clause-behind : goal.returns-clause-behind
returns-clause-behind c =
    let all : List Laid = c.self.inside.left.items ++ c.self.inside.right.items in
    let n : ℕ = c.self.inside.count in
    let k : ℕ = c.args.count in
    let front : take n all ≡ c.args.self.now.before = ap (λ (p : Parted). p.before) c.self.view_is in
    let back : drop n all ≡ c.args.self.now.behind = ap (λ (p : Parted). p.behind) c.self.view_is in
    drop_between all k n (omega (arith, ap length front, c.requires))
    ∙ ap (λ (xs : List Laid). drop k xs ++ drop n all) front ∙ ap (λ (xs : List Laid). drop k c.args.self.now.before ++ xs) back
