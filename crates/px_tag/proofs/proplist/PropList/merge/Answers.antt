use Rattle.std.proofs.Common.{◌≡◌, ◌∙◌, ap, take, true, subst, sym}
use Rattle.px_tag.specs.PropList.{is_proplist}
use Rattle.px_tag.proofs.Properties.{seen_front}
use Rattle.px_tag.proofs.proplist.PropList.merge.Goals as goal

pub invariant_of-self : goal.invariant_of-self
invariant_of-self c =
    let n = c.len-before.result in
    let first = ap (take n) c.self.view_is ∙ ap (λ k. take k c.set_missing.new.self) c.len-before.ensures.count ∙ c.set_missing.ensures.front in
    let as_before = seen_front n c.self.inside.table.entries c.truncate.new.self.entries c.args.self.now c.truncate.ensures.entries first in
    subst (λ list. is_proplist list ≡ true) (sym as_before) c.len-before.ensures.rules

pub returns-in-Err-clause-unchanged : goal.returns-in-Err-clause-unchanged
returns-in-Err-clause-unchanged c =
    let n = c.len-before.result in
    let first = ap (take n) c.self.view_is ∙ ap (λ k. take k c.set_missing.new.self) c.len-before.ensures.count ∙ c.set_missing.ensures.front in
    seen_front n c.self.inside.table.entries c.truncate.new.self.entries c.args.self.now c.truncate.ensures.entries first
