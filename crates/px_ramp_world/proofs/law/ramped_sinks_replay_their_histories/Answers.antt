use Rattle.px_ramp_world.proofs.Decided as decided
use Rattle.px_ramp_world.proofs.law.ramped_sinks_replay_their_histories.Goals as goal

pub returns-clause-sinks : goal.returns-clause-sinks
returns-clause-sinks c = decided.sink-replayed

pub returns-clause-played : goal.returns-clause-played
returns-clause-played c = decided.played-replayed

pub returns-clause-histories : goal.returns-clause-histories
returns-clause-histories c = decided.history-lawful

pub returns-clause-all_consumed : goal.returns-clause-all_consumed
returns-clause-all_consumed c = decided.played-consumed
