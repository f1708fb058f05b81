use Rattle.px_world.proofs.Joining as joining
use Rattle.px_world.proofs.Tracks as tracks
use Rattle.px_world.proofs.law.continuity.Goals as goal

pub returns-clause-joined : goal.returns-clause-joined
returns-clause-joined c = joining.joined

pub returns-clause-rising : goal.returns-clause-rising
returns-clause-rising c = joining.rising

pub returns-clause-whole : goal.returns-clause-whole
returns-clause-whole c = tracks.whole

pub returns-clause-stands : goal.returns-clause-stands
returns-clause-stands c = joining.stands
