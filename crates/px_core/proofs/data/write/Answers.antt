use Rattle.std.proofs.Common.{sym}
use Rattle.px_state.specs.State.{is_stream}
use Rattle.px_core.proofs.EntryLaws.{found_by_index}
use Rattle.px_core.proofs.data.write.Goals as goal

pub write_to-requires-clause-there : goal.write_to-requires-clause-there
write_to-requires-clause-there g c = found_by_index (is_stream c.args.conn c.args.stream) c.args.tables.now.inputs.items c.requires.rising c.in-Some.input.now (sym c.in-Some.ensures)
