use Rattle.std.proofs.Common.{arith, refl, sym, ◌∙◌}
use Rattle.px_subscribe.proofs.Entries.{one_more, all_equal}
use Rattle.px_subscribe.proofs.object.same_list.Goals as goal

pub loop-i-preserved : goal.loop-i-preserved
loop-i-preserved c =
    one_more c.args.a.now c.args.b.now c.loop-i.i c.loop-i.invariant (sym c.get_index.ensures.entry ∙ c.if-not-same_entry.ensures refl ∙ c.get_index-in-loop-i.ensures.entry)

pub returns : goal.returns
returns c = λ t.
    all_equal c.args.a.now c.args.b.now (sym c.len.ensures.count ∙ c.if-len.false ∙ c.len-2.ensures.count)
    (λ k l. c.loop-i.invariant k (omega (arith, l, c.loop-i-test.false, c.len-i-end.ensures.count)))
