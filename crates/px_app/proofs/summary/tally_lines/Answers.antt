use Rattle.std.proofs.Common.{◌≡◌, ℕ, List, codes, decimal, IfOk, string_bytes, sym, subst}
use Rattle.px_app.proofs.LineLaws.{seven}
use Rattle.px_app.proofs.summary.tally_lines.Goals as goal

pub returns : goal.returns
returns c =
    subst (λ (line : List ℕ). IfOk c.format.result (λ text. string_bytes text ≡ line))
    (sym (seven (codes "events ") (decimal c.args.tally.events) (codes "\nsent ") (decimal c.args.tally.sent) (codes "\nclosed ") (decimal c.args.tally.closed) (codes "\n"))) c.format.ensures.ok
