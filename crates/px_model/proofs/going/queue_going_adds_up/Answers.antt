use Rattle.px_model.proofs.Adding as adding
use Rattle.px_model.proofs.going.queue_going_adds_up.Goals as goal

pub returns-clause-queue : goal.returns-clause-queue
returns-clause-queue c = adding.queue_after_adds

pub returns-clause-given : goal.returns-clause-given
returns-clause-given c = adding.queue_given_adds

pub returns-clause-ahead : goal.returns-clause-ahead
returns-clause-ahead c = adding.queue_frame_ahead
