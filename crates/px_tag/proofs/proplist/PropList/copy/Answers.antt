use Rattle.std.proofs.Common.{◌≡◌, true}
use Rattle.px_tag.specs.PropList.{is_proplist}
use Rattle.px_tag.proofs.Properties.{copies}
use Rattle.px_tag.proofs.proplist.PropList.copy.Goals as goal

pub returns : goal.returns
returns c =
    let rules : is_proplist c.args.self.now ≡ true = rw (← c.self.view_is) c.self.invariant in
    rw (c.in_ok-set_all.ensures, c.in_ok-made.ensures) (copies c.args.self.now rules)
