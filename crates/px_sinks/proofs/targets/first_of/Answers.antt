use Rattle.std.proofs.Common.{[], sym}
use Rattle.px_sinks.proofs.Sinks.{all_first, each_of_header}
use Rattle.px_sinks.proofs.targets.first_of.Goals as goal

pub returns-then-sinks-le-MAX_SINKS-clause-value : goal.returns-then-sinks-le-MAX_SINKS-clause-value
returns-then-sinks-le-MAX_SINKS-clause-value c = sym (all_first 16 c.args.sinks.now c.if-sinks-le-MAX_SINKS.true)

pub returns-then-sinks-le-MAX_SINKS-clause-header : goal.returns-then-sinks-le-MAX_SINKS-clause-header
returns-then-sinks-le-MAX_SINKS-clause-header c = each_of_header [] c.args.sinks.now c.requires
