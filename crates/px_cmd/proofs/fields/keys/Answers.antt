use Rattle.std.proofs.Common.{sym, ◌∙◌}
use Rattle.std.proofs.lemmas.Result.{err_from_is_err_and}
use Rattle.px_cmd.specs.Field.{keys_at}
use Rattle.px_cmd.proofs.KeyList.{text_shorter, keys_end, keys_next, keys_fails}
use Rattle.px_cmd.proofs.fields.keys.Goals as goal

pub returns-in_err-text : goal.returns-in_err-text
returns-in_err-text c =
    let p = err_from_is_err_and c.from_residual.result c.from_residual.ensures.1 in
    let i = c.loop-keys.invariant in
    rw (p.1, p.2) (keys_fails i.0 c.loop-keys.reader c.loop-keys.keys (keys_at _ c.args.reader.now) c.in_err-text.field-0.0 i.1 i.2 c.in_err-text.ensures)

pub returns-in-None : goal.returns-in-None
returns-in-None c =
    let i = c.loop-keys.invariant in
    let read = rw c.in-None.is at c.in_ok-text.ensures in
    sym i.2 ∙ keys_end i.0 c.loop-keys.reader c.loop-keys.keys c.text.new.reader i.1 read

pub loop-keys-smaller : goal.loop-keys-smaller
loop-keys-smaller c = text_shorter c.loop-keys.reader c.in_ok-text.field-0 c.text.new.reader c.in_ok-text.ensures

pub loop-keys-preserved : goal.loop-keys-preserved
loop-keys-preserved c =
    let i = c.loop-keys.invariant in
    let read = rw c.in-Some.is at c.in_ok-text.ensures in
    let next = keys_next i.0 c.loop-keys.reader c.loop-keys.keys c.in-Some.key c.text.new.reader i.1 read in
    (next.0, next.1, rw c.in_ok-push-in-Some.ensures.added (sym next.2 ∙ i.2))
