use Rattle.px_ramp.proofs.Ramped.{ramp_starts, ramp_ends, flat_stays}
use Rattle.px_ramp.proofs.laws.ramps_go_from_start_to_end.Goals as goal

pub returns-clause-starts : goal.returns-clause-starts
returns-clause-starts c = λ n r some. ramp_starts n r some

pub returns-clause-ends : goal.returns-clause-ends
returns-clause-ends c = λ n r j some past. ramp_ends n r j some past

pub returns-clause-stays : goal.returns-clause-stays
returns-clause-stays c = flat_stays
