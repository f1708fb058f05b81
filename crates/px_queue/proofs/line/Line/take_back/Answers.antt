use Rattle.std.proofs.Common.{◌≡◌, ℕ, ◌+◌, ◌-◌, List, length, take, drop, ap, ◌∙◌, arith, length-drop}
use Rattle.std.proofs.lemmas.List.{drop-take}
use Rattle.px_queue.specs.Laid.{Laid, Lined}
use Rattle.px_queue.proofs.line.Line.take_back.Goals as goal

pub returns-clause-left : goal.returns-clause-left
returns-clause-left c =
    let cs : List Laid = c.other.inside.chunks.items in
    let gone : ℕ = c.other.inside.gone in
    let is : drop gone cs ≡ c.args.other.now.items = ap (λ (l : Lined). l.items) c.other.view_is in
    let same : c.len.result - c.args.count ≡ gone + (length (drop gone cs) - c.args.count) =
    omega (arith, length-drop gone cs, c.len.ensures, c.requires.there, ap length is, c.other.inside.chunks.ok.0) in
    ap (drop gone) (c.truncate.ensures.items ∙ ap (λ (n : ℕ). take n cs) same)
    ∙ drop-take gone (length (drop gone cs) - c.args.count) cs
    ∙ ap (λ (xs : List Laid). take (length xs - c.args.count) xs) is
