use Rattle.std.proofs.Common.{sym}
use Rattle.px_tag.proofs.Properties.{seen_rules}
use Rattle.px_tag.proofs.proplist.PropList.get_index.Goals as goal

pub returns-in-Some-clause-rules : goal.returns-in-Some-clause-rules
returns-in-Some-clause-rules c = rw (c.as_slice.ensures.value, c.as_slice-in-Some.ensures.value) (seen_rules c.self.inside.table.entries c.args.index (c.in-Some.key.now, c.in-Some.value.now) c.self.invariant (sym c.in-Some.ensures.entry))
