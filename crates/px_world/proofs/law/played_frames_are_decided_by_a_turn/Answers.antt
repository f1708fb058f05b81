use Rattle.px_world.proofs.Decided.{is-decided}
use Rattle.px_world.proofs.law.played_frames_are_decided_by_a_turn.Goals as goal

pub returns : goal.returns
returns c = λ header events admitted k s there. is-decided header events k s there admitted
