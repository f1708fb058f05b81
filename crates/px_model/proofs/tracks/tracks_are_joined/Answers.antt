use Rattle.px_model.specs.Track.{track_of}
use Rattle.px_model.proofs.Joined as tracks_join
use Rattle.px_model.proofs.tracks.tracks_are_joined.Goals as goal

pub returns-clause-joined : goal.returns-clause-joined
returns-clause-joined c = tracks_join.track_joined

pub returns-clause-rising : goal.returns-clause-rising
returns-clause-rising c = λ samples sink keeps history h o i once. tracks_join.joined_rise (track_of samples sink history i) (tracks_join.track_joined samples sink keeps history h o i once)
