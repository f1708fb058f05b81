use Rattle.px_model.proofs.Replays as replays
use Rattle.px_model.proofs.Rounds as rounds
use Rattle.px_model.proofs.turns.turn_mixes_from_its_horizon.Goals as goal

pub returns-clause-stays : goal.returns-clause-stays
returns-clause-stays c = rounds.turn_stays

pub returns-clause-fresh : goal.returns-clause-fresh
returns-clause-fresh c = rounds.turn_fresh

pub returns-clause-whole : goal.returns-clause-whole
returns-clause-whole c = replays.mix_whole

pub returns-clause-stop_stays : goal.returns-clause-stop_stays
returns-clause-stop_stays c = rounds.stop_stays
