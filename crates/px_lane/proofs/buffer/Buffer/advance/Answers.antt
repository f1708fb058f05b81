use Rattle.std.proofs.Common.{◌≡◌, ℕ, ◌+◌, ◌-◌, ◌≤◌, List, length, take, drop, ap, sym, ◌∙◌, subst}
use Rattle.px_lane.proofs.Gone.{held_all, left_behind}
use Rattle.px_lane.proofs.buffer.Buffer.advance.Goals as goal

pub returns-else-self-clause-front : goal.returns-else-self-clause-front
returns-else-self-clause-front c =
    let d = c.self.inside in
    let held : length (take d.size (drop d.gone d.bytes.items)) ≡ d.size = held_all d.size d.gone d.bytes.items c.self.invariant.0 c.self.invariant.1 in
    let few : c.args.count ≤ d.size = subst (λ (n : ℕ). c.args.count ≤ n) held (subst (λ (xs : List ℕ). c.args.count ≤ length xs) (sym c.self.view_is) c.requires) in
    ap (λ (xs : List ℕ). take (length xs - c.args.count) (take d.size (drop (d.gone + c.args.count) d.bytes.items))) (sym c.self.view_is)
    ∙ ap (λ (n : ℕ). take (n - c.args.count) (take d.size (drop (d.gone + c.args.count) d.bytes.items))) held
    ∙ left_behind d.size d.gone c.args.count d.bytes.items few
    ∙ ap (λ (xs : List ℕ). drop c.args.count xs) c.self.view_is
