use Rattle.px_core_cell.proofs.Naming.{entries_name}
use Rattle.px_core_cell.proofs.laws.entries_name_what_left.Goals as goal

pub returns : goal.returns
returns c = entries_name
