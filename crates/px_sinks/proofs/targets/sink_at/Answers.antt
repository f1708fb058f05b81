use Rattle.std.proofs.Common.{Bor}
use Rattle.px_header.specs.declared.header.SinkSpec.{SinkSpec}
use Rattle.px_sinks.proofs.Sinks.{found_in_header}
use Rattle.px_sinks.proofs.targets.sink_at.Goals as goal

pub returns-clause-header : goal.returns-clause-header
returns-clause-header c = found_in_header (λ (s : Bor SinkSpec). s.now) c.get.result c.args.sinks.now c.args.index.0 c.requires c.get.ensures.lookup.0 c.get.ensures.lookup.1
