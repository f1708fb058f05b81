use Rattle.px_model.proofs.Stays as stays_go_on
use Rattle.px_model.proofs.tracks.tracks_go_on_from_sink_to_sink.Goals as goal

pub returns-clause-joined : goal.returns-clause-joined
returns-clause-joined c = stays_go_on.stays_joined

pub returns-clause-rising : goal.returns-clause-rising
returns-clause-rising c = stays_go_on.stays_rise
