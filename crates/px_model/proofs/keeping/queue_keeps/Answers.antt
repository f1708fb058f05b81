use Rattle.px_model.proofs.Forward as forward
use Rattle.px_model.proofs.Preserved as preserved
use Rattle.px_model.proofs.keeping.queue_keeps.Goals as goal

pub returns-clause-going : goal.returns-clause-going
returns-clause-going c = forward.queue_after_keeps

pub returns-clause-write : goal.returns-clause-write
returns-clause-write c = preserved.queue_written_keeps

pub returns-clause-others : goal.returns-clause-others
returns-clause-others c = preserved.queue_steps_keep
