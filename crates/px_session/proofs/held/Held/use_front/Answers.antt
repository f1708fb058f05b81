use Rattle.std.proofs.Common.{List, ℕ, ◌-◌, ◌≤◌, ◌∙◌, length, ap, drop, arith, length-take}
use Rattle.px_session.proofs.Buffer.{used}
use Rattle.px_session.proofs.held.Held.use_front.Goals as goal

pub returns : goal.returns
returns c =
    let inside = c.self.inside in
    let n = c.args.count in
    let few : n ≤ inside.to - inside.from = omega (arith, c.requires, ap (length {A = ℕ}) c.self.view_is, length-take (inside.to - inside.from) (drop inside.from inside.buffer.items)) in
    used inside.from inside.to n inside.buffer.items few ∙ ap (λ (bytes : List ℕ). drop n bytes) c.self.view_is
