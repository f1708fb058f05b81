use Rattle.px_msg.proofs.Sizes.{same_frame_size}
use Rattle.px_msg.proofs.law.views_agree.Goals as goal

pub returns : goal.returns
returns c = same_frame_size
