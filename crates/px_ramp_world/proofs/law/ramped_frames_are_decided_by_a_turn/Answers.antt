use Rattle.px_ramp_world.proofs.Decided.{is-decided}
use Rattle.px_ramp_world.proofs.law.ramped_frames_are_decided_by_a_turn.Goals as goal

pub returns : goal.returns
returns c = λ n header events admitted k s there. is-decided n header events k s there admitted
