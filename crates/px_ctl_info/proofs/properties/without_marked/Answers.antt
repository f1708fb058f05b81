use Rattle.std.proofs.Common.{[], ap, ◌∙◌}
use Rattle.px_tag.specs.PropList.{with_all}
use Rattle.px_ctl_info.specs.Removed.{kept}
use Rattle.px_ctl_info.proofs.Removed.{kept_is}
use Rattle.px_ctl_info.proofs.properties.without_marked.Goals as goal

pub returns : goal.returns
returns c =
    c.in_ok-made.ensures ∙ ap (λ m. with_all [] (kept m c.args.list.now)) c.in_ok-marks.ensures ∙ kept_is c.args.list.now c.args.keys.now c.len-count.ensures.rules
