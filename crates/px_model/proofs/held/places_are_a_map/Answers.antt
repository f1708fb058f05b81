use Rattle.px_model.proofs.Bridge as bridge
use Rattle.px_model.proofs.held.places_are_a_map.Goals as goal

pub returns-clause-below : goal.returns-clause-below
returns-clause-below c = bridge.frame_below

pub returns-clause-past : goal.returns-clause-past
returns-clause-past c = bridge.frame_past

pub returns-clause-list_back : goal.returns-clause-list_back
returns-clause-list_back c = bridge.list_back

pub returns-clause-map_back : goal.returns-clause-map_back
returns-clause-map_back c = bridge.map_back

pub returns-clause-same : goal.returns-clause-same
returns-clause-same c = bridge.same_map
