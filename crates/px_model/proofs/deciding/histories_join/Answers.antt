use Rattle.px_model.proofs.Replays as replays
use Rattle.px_model.proofs.deciding.histories_join.Goals as goal

pub returns-clause-sink : goal.returns-clause-sink
returns-clause-sink c = replays.replay_joins

pub returns-clause-notices : goal.returns-clause-notices
returns-clause-notices c = replays.notices_join

pub returns-clause-played : goal.returns-clause-played
returns-clause-played c = replays.played_join
