use Rattle.std.proofs.Common.{◌∙◌, sym}
use Rattle.px_client.proofs.Read.{read_more}
use Rattle.px_client.proofs.answer.inputs.Goals as goal

pub loop-preserved : goal.loop-preserved
loop-preserved c = rw c.in_ok-push.ensures.ok
    (sym (read_more c.loop.inputs c.args.most c.loop.counter c.loop.reader c.loop-test.true _ c.in_ok-input.field-0 c.input.new.reader c.in-Err.ensures c.in_ok-input.ensures) ∙ c.loop.invariant)
