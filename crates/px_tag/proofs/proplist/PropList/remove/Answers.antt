use Rattle.std.proofs.Common.{map, ◌∙◌, refl}
use Rattle.px_tag.proofs.Properties.{seen, seen_remove, there_is, proplist_without}
use Rattle.px_tag.proofs.proplist.PropList.remove.Goals as goal

pub invariant_of-self : goal.invariant_of-self
invariant_of-self c = rw (c.shift_remove.ensures.entries, seen_remove c.self.inside.table.entries c.args.key.now) (proplist_without (map seen c.self.inside.table.entries) c.args.key.now c.self.invariant)

pub returns-clause-there : goal.returns-clause-there
returns-clause-there c = rw (← c.self.view_is) (c.is_some.ensures ∙ there_is c.self.inside.table.entries c.args.key.now c.shift_remove.result c.shift_remove.ensures.value)

pub returns-clause-removed : goal.returns-clause-removed
returns-clause-removed c = rw (c.shift_remove.ensures.entries, seen_remove c.self.inside.table.entries c.args.key.now, ← c.self.view_is) refl
