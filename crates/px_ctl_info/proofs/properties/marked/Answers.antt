use Rattle.std.proofs.Common.{◌≡◌, true, ap, ◌∙◌}
use Rattle.px_tag.specs.PropList.{has_key}
use Rattle.px_ctl_info.specs.Properties.{has_keys}
use Rattle.px_ctl_info.proofs.Removed.{has_each}
use Rattle.px_ctl_info.proofs.properties.marked.Goals as goal

pub mark-requires : goal.mark-requires
mark-requires c =
    let keys = c.as_slice-key-items.result.now in
    let all : has_keys c.args.list.now keys ≡ true = ap (has_keys c.args.list.now) c.as_slice-key-items.ensures ∙ c.requires in
    ap (has_key c.args.list.now) c.as_slice.ensures ∙ has_each c.args.list.now keys c.loop-key.key-index c.key-item.result all c.loop-key-test.true c.key-item.is
