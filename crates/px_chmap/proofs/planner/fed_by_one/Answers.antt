use Rattle.std.proofs.Common.{◌∙◌}
use Rattle.std.proofs.lemmas.List.{take-replicate}
use Rattle.px_chmap.proofs.planner.fed_by_one.Goals as goal

pub returns : goal.returns
returns c = c.feed_of.ensures ∙ take-replicate c.args.count 32 0 c.requires.few
