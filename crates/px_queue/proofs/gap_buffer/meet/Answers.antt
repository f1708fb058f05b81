use Rattle.std.proofs.Common.{◌≡◌, ◌-◌, ◌≤◌, ℕ, List, ◌++◌, length, take, drop, ap, sym, ◌∙◌, arith}
use Rattle.px_queue.specs.Laid.{Laid}
use Rattle.px_queue.proofs.Gapped.{take_more, drop_more}
use Rattle.px_queue.proofs.gap_buffer.meet.Goals as goal

pub returns-then-count-len-2-clause-left : goal.returns-then-count-len-2-clause-left
returns-then-count-len-2-clause-left c =
    let ls : List Laid = c.args.left.now.items in
    let rs : List Laid = c.args.right.now.items in
    let past : length ls ≤ c.args.count = omega (arith, c.len-len.ensures.value, c.if-count-len-2.true) in
    c.take_front.ensures.items ∙ ap (λ (n : ℕ). ls ++ take (c.args.count - n) rs) c.len-len.ensures.value ∙ sym (take_more ls rs c.args.count past)

pub returns-then-count-len-2-clause-right : goal.returns-then-count-len-2-clause-right
returns-then-count-len-2-clause-right c =
    let ls : List Laid = c.args.left.now.items in
    let rs : List Laid = c.args.right.now.items in
    let past : length ls ≤ c.args.count = omega (arith, c.len-len.ensures.value, c.if-count-len-2.true) in
    c.take_front.ensures.left ∙ ap (λ (n : ℕ). drop (c.args.count - n) rs) c.len-len.ensures.value ∙ sym (drop_more ls rs c.args.count past)
