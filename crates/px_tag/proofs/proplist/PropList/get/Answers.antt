use Rattle.std.proofs.Common.{sym, ap, ◌∙◌}
use Rattle.std.specs.Option.{option_map}
use Rattle.px_tag.proofs.Properties.{seen_get}
use Rattle.px_tag.proofs.proplist.PropList.get.Goals as goal

pub returns-in-None : goal.returns-in-None
returns-in-None c = rw (← c.self.view_is) (ap (option_map (λ v. v.items)) c.in-None.ensures.value ∙ sym (seen_get c.self.inside.table.entries c.args.key.now))

pub returns-in-Some : goal.returns-in-Some
returns-in-Some c = rw (c.as_slice.ensures.value, ← c.self.view_is) (ap (option_map (λ v. v.items)) c.in-Some.ensures.value ∙ sym (seen_get c.self.inside.table.entries c.args.key.now))
