use Rattle.px_scache.proofs.Lookup.{found_again, others_found, none_left, others_stay, one_more}
use Rattle.px_scache.proofs.law.cache_is_a_map.Goals as goal

pub returns-clause-stored : goal.returns-clause-stored
returns-clause-stored c = found_again

pub returns-clause-stored_beside : goal.returns-clause-stored_beside
returns-clause-stored_beside c = others_found

pub returns-clause-removed : goal.returns-clause-removed
returns-clause-removed c = none_left

pub returns-clause-removed_beside : goal.returns-clause-removed_beside
returns-clause-removed_beside c = others_stay

pub returns-clause-one_more : goal.returns-clause-one_more
returns-clause-one_more c = one_more
