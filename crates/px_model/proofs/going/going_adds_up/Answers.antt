use Rattle.px_model.proofs.Streams as streams
use Rattle.px_model.proofs.going.going_adds_up.Goals as goal

pub returns-clause-stream : goal.returns-clause-stream
returns-clause-stream c = streams.after_adds

pub returns-clause-given : goal.returns-clause-given
returns-clause-given c = streams.given_adds

pub returns-clause-frames : goal.returns-clause-frames
returns-clause-frames c = streams.frames_join

pub returns-clause-ahead : goal.returns-clause-ahead
returns-clause-ahead c = streams.frame_ahead
