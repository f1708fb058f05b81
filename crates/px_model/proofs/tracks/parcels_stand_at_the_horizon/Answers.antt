use Rattle.px_model.specs.Control.{attached}
use Rattle.px_model.proofs.Parcels as parcels
use Rattle.px_model.proofs.Matching as matching
use Rattle.px_model.proofs.tracks.parcels_stand_at_the_horizon.Goals as goal

pub returns-clause-stays : goal.returns-clause-stays
returns-clause-stays c = parcels.entry_stands

pub returns-clause-leaves : goal.returns-clause-leaves
returns-clause-leaves c = parcels.entry_hands

pub returns-clause-attaches : goal.returns-clause-attaches
returns-clause-attaches c = λ mixed i parcel feed factors inputs. matching.here_with i (attached parcel feed factors) inputs
