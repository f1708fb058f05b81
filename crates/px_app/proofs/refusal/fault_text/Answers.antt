use Rattle.std.proofs.Common.{◌≡◌, ℕ, List, codes, decimal, IfOk, string_bytes, sym, subst}
use Rattle.px_app.proofs.LineLaws.{four}
use Rattle.px_app.proofs.refusal.fault_text.Goals as goal

pub returns-in-TooMany : goal.returns-in-TooMany
returns-in-TooMany c =
    rw c.in-TooMany.is (subst (λ (line : List ℕ). IfOk c.format-in-TooMany.result (λ text. string_bytes text ≡ line)) (sym (four (codes "too many, ") (decimal c.in-TooMany.asked) (codes " of ") (decimal c.in-TooMany.there))) c.format-in-TooMany.ensures.ok)
