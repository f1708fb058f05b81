use Rattle.px_model.proofs.Overlay as writes
use Rattle.px_model.proofs.held.write_changes_its_indices.Goals as goal

pub returns-clause-inside : goal.returns-clause-inside
returns-clause-inside c = writes.write_inside

pub returns-clause-outside : goal.returns-clause-outside
returns-clause-outside c = writes.write_outside

pub returns-clause-trimmed : goal.returns-clause-trimmed
returns-clause-trimmed c = writes.write_trimmed
