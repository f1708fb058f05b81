use Rattle.std.proofs.Common.{◌∙◌}
use Rattle.px_sinks.proofs.Sinks.{is_target}
use Rattle.px_sinks.proofs.targets.target_of.Goals as goal

pub returns-clause-lawful : goal.returns-clause-lawful
returns-clause-lawful c = is_target c.args.index c.in_ok-copied.field-0 c.args.sink.now c.requires (c.in_ok-copied.ensures ∙ c.as_slice.ensures)
