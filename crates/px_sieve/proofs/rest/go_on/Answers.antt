use Rattle.std.proofs.Common.{rules, ◌<◌, ◌^◌, [], length, sym}
use Rattle.px_sieve.proofs.Resting.{resume}
use Rattle.px_sieve.proofs.rest.go_on.Goals as goal

pub returns : goal.returns
returns c = λ begun is short.
    let fits : length c.args.bytes.now < 2 ^ 64 = search rules in
    resume c.args.frames.now c.args.rest.now (record { count = c.left_after-rest.result; first = c.fill-2.new.first }) begun c.args.bytes.now c.last.result.now c.saturating_add-all.result
    (sym c.if-is_empty.ensures) is short c.saturating_add-all.ensures fits c.left_after-rest.ensures c.last.ensures (c.in_ok-fill-2.ensures [] c.new-first.ensures.items)
