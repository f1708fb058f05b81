use Rattle.px_model.proofs.Whole as whole
use Rattle.px_model.proofs.tracks.parcels_are_whole.Goals as goal

pub returns : goal.returns
returns c = whole.all_whole
