use Rattle.std.proofs.Common.{nat_eq, refl, ◌∙◌}
use Rattle.std.specs.Cmp.Lexicographic.{pointwise}
use Rattle.std.specs.Map.{lookup}
use Rattle.px_tag.proofs.Properties.{there_is}
use Rattle.px_tag.proofs.proplist.PropList.contains.Goals as goal

pub returns : goal.returns
returns c = rw (← c.self.view_is) (c.contains_key.ensures ∙ there_is c.self.inside.table.entries c.args.key.now (lookup (λ k. pointwise nat_eq c.args.key.now k.items) c.self.inside.table.entries) refl)
