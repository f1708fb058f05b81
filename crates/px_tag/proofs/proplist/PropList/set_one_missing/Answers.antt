use Rattle.std.proofs.Common.{◌≡◌, ◌∙◌, ap, arith, false, length, sym, take}
use Rattle.px_tag.specs.PropList.{has_key}
use Rattle.px_tag.proofs.Properties.{front_with, longer_with}
use Rattle.px_tag.proofs.proplist.PropList.set_one_missing.Goals as goal

pub returns-clause-front : goal.returns-clause-front
returns-clause-front c = λ before within.
    let none : has_key c.args.self.now c.args.key.now ≡ false = sym c.contains.ensures ∙ c.if-contains.false in
    ap (take before) c.in_ok-set.ensures.set ∙ front_with c.args.self.now c.args.key.now c.args.value.now before none within

pub returns-clause-longer : goal.returns-clause-longer
returns-clause-longer c =
    let none : has_key c.args.self.now c.args.key.now ≡ false = sym c.contains.ensures ∙ c.if-contains.false in
    omega (arith, longer_with c.args.self.now c.args.key.now c.args.value.now none, ap length c.in_ok-set.ensures.set)
