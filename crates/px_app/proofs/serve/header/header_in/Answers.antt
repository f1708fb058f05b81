use Rattle.std.proofs.Common.{ℕ, Ok, subst, sym}
use Rattle.px_app.specs.HeaderFile.{FirstGives}
use Rattle.px_app.proofs.HeaderLaws.{none_read}
use Rattle.px_app.proofs.serve.header.header_in.Goals as goal

pub returns-in-Ok-clause-gives : goal.returns-in-Ok-clause-gives
returns-in-Ok-clause-gives c =
    c.whole.ensures.gives c.args.bytes (sym c.len-size.ensures)
    (subst (λ (end : ℕ). FirstGives (Ok c.in-Ok.header) c.args.bytes end) (sym c.at.ensures) c.in-Ok.ensures.gives)

pub returns-clause-gives : goal.returns-clause-gives
returns-clause-gives c = none_read c.in-Err.e c.args.bytes c.first_header.new.reader.at c.in-Err.ensures.gives
