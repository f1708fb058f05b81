use Rattle.px_flat.proofs.Volumes as volumes
use Rattle.px_flat.proofs.laws.volumes_keep_inputs.Goals as goal

pub returns-clause-input_volume : goal.returns-clause-input_volume
returns-clause-input_volume c = volumes.input_volume

pub returns-clause-sink_volume : goal.returns-clause-sink_volume
returns-clause-sink_volume c = volumes.sink_volume

pub returns-clause-input_mute : goal.returns-clause-input_mute
returns-clause-input_mute c = volumes.input_mute

pub returns-clause-sink_mute : goal.returns-clause-sink_mute
returns-clause-sink_mute c = volumes.sink_mute

pub returns-clause-factors : goal.returns-clause-factors
returns-clause-factors c = volumes.factors
