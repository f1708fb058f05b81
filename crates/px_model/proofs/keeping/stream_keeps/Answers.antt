use Rattle.px_model.proofs.Streams as streams
use Rattle.px_model.proofs.Preserved as preserved
use Rattle.px_model.proofs.keeping.stream_keeps.Goals as goal

pub returns-clause-new : goal.returns-clause-new
returns-clause-new c = preserved.new_keeps

pub returns-clause-attach : goal.returns-clause-attach
returns-clause-attach c = preserved.attached_keeps

pub returns-clause-going : goal.returns-clause-going
returns-clause-going c = streams.after_keeps

pub returns-clause-write : goal.returns-clause-write
returns-clause-write c = preserved.written_keeps

pub returns-clause-cork : goal.returns-clause-cork
returns-clause-cork c = preserved.corked_keeps

pub returns-clause-flush : goal.returns-clause-flush
returns-clause-flush c = preserved.flushed_keeps

pub returns-clause-trigger : goal.returns-clause-trigger
returns-clause-trigger c = preserved.triggered_keeps

pub returns-clause-prebuf : goal.returns-clause-prebuf
returns-clause-prebuf c = preserved.prebuffered_keeps

pub returns-clause-drain : goal.returns-clause-drain
returns-clause-drain c = preserved.drained_keeps

pub returns-clause-attr : goal.returns-clause-attr
returns-clause-attr c = preserved.attr_keeps

pub returns-clause-factors : goal.returns-clause-factors
returns-clause-factors c = preserved.factors_keep

pub returns-clause-asked : goal.returns-clause-asked
returns-clause-asked c = preserved.asked_keeps
