use Rattle.std.proofs.Common.{arith, rules, length, refl, subst, sym, nat_lt}
use Rattle.std.specs.Prelude.{IsTrue}
use Rattle.px_names.specs.declared.input_lists.InputList.{InputList}
use Rattle.px_names.proofs.Halved.{follows_last}
use Rattle.px_names.proofs.input_lists.follows.Goals as goal

pub returns : goal.returns
returns c above list same =
    follows_last c.args.lists.now (length c.args.lists.now) c.index-lists-lists.result list c.args.input c.index-lists-lists.is refl (omega (arith, c.if-lists-eq0.false))
    (subst (λ x. IsTrue (nat_lt (InputList.input x).0 c.args.input.0)) (sym c.index-lists-lists.is) above) (c.requires (search rules)) same
