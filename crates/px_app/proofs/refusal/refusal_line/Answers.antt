use Rattle.std.proofs.Common.{◌≡◌, ℕ, List, ◌++◌, codes, decimal, IfOk, string_bytes, sym, subst, ap, ◌∙◌}
use Rattle.px_app.specs.Refusal.{refusal_line}
use Rattle.px_app.proofs.LineLaws.{five}
use Rattle.px_app.proofs.refusal.refusal_line.Goals as goal

pub returns : goal.returns
returns c =
    let at = decimal c.args.refusal.at in
    let text = string_bytes c.in_ok-text.text in
    let same : codes "pulse_rw: refused at " ++ (at ++ (codes ": " ++ (text ++ codes "\n"))) ≡ refusal_line c.args.refusal =
    sym (five (codes "pulse_rw: refused at ") at (codes ": ") text (codes "\n"))
    ∙ ap (λ (t : List ℕ). codes "pulse_rw: refused at " ++ at ++ codes ": " ++ t ++ codes "\n") c.in_ok-text.ensures in
    subst (λ (line : List ℕ). IfOk c.format.result (λ s. string_bytes s ≡ line)) same c.format.ensures.ok
