use Rattle.std.proofs.Common.{◌∙◌}
use Rattle.px_ctl_info.proofs.Halved.{found_after}
use Rattle.px_ctl_info.proofs.infos.member_in.Goals as goal

pub returns : goal.returns
returns c =
    c.member_at.ensures
    ∙ found_after 0 c.args.input c.lower-place.result c.args.members.now (c.requires c.if-not-rising.false) c.lower-place.ensures.below c.lower-place.ensures.few c.lower-place.ensures.end
