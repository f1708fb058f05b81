use Rattle.px_names.proofs.Visible.{name_is_text}
use Rattle.px_names.proofs.source.SourceName.as_slice.Goals as goal

pub returns-clause-text : goal.returns-clause-text
returns-clause-text c = rw (← c.self.view_is) (name_is_text c.self.inside.name c.self.invariant)
