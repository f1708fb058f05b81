use Rattle.std.proofs.Common.{sym, ◌∙◌}
use Rattle.px_app.proofs.HeaderLaws.{all_read, some_read}
use Rattle.px_app.proofs.serve.header.whole.Goals as goal

pub returns-then-end-size-clause-gives : goal.returns-then-end-size-clause-gives
returns-then-end-size-clause-gives c = λ bytes size first. all_read c.args.header bytes c.args.end first (c.if-end-size.true ∙ sym size)

pub returns-else-end-size-clause-gives : goal.returns-else-end-size-clause-gives
returns-else-end-size-clause-gives c = λ bytes size first. some_read c.args.header bytes c.args.end first (λ all. c.if-end-size.false (all ∙ size))
