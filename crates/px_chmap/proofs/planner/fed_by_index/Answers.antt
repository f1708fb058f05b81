use Rattle.std.proofs.Common.{◌∙◌, ◌≡◌, length, arith, rules}
use Rattle.px_chmap.proofs.PlanLemmas.{counted_is}
use Rattle.px_chmap.proofs.planner.fed_by_index.Goals as goal

pub returns : goal.returns
returns c =
    let long : length c.loop-index.channels ≡ c.args.count = search rules in
    c.feed_of.ensures ∙ counted_is c.loop-index.channels c.args.count long (λ k below. c.loop-index.invariant k (omega arith))
