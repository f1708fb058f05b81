use Rattle.px_core.proofs.MissingLaws as missing
use Rattle.px_core.proofs.laws.what_is_there_is_found.Goals as goal

pub returns-clause-sink : goal.returns-clause-sink
returns-clause-sink g c = λ spec_of state me tag command target h names. missing.sink_found spec_of state h me tag command target names

pub returns-clause-input : goal.returns-clause-input
returns-clause-input g c = λ spec_of state me tag command x h names held live. missing.input_found spec_of state h me tag command x names held live
