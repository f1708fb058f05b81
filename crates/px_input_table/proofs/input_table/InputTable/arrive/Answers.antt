use Rattle.std.proofs.Common.{◌≡◌, true, None, Some, inr, refl, ap, sym, subst, ◌∙◌}
use Rattle.std.specs.Prelude.{IfSome}
use Rattle.std.specs.List.{find}
use Rattle.std.specs.Option.{option_map}
use Rattle.px_outcome.specs.Input.{has_index, goes_on}
use Rattle.px_input_table.specs.Lists.{change_first}
use Rattle.px_input_table.specs.Inputs.{arrived_at}
use Rattle.px_input_table.specs.InputTable.{AreByStream, key_of}
use Rattle.px_input_table.proofs.ByStream.{Renews, unnamed, holds-changed, none-changed, going-there}
use Rattle.px_input_table.proofs.input_table.InputTable.arrive.Goals as goal

pub renew-requires : goal.renew-requires
renew-requires c = λ some.
    let is = has_index c.args.index in
    let all = c.self.inside.all.items in
    let key = c.in-Some.key in
    let at : option_map key_of (find is all) ≡ Some key = subst (λ xs. option_map key_of (find is xs) ≡ Some key) c.deref.ensures.value (sym c.in-Some.ensures) in
    inr (going-there all c.self.inside.by_stream c.self.invariant is key (find is all) refl at (subst (λ xs. IfSome (find is xs) (λ x. goes_on x ≡ true)) (sym (ap (λ t. t.items) c.self.view_is)) c.requires))

pub invariant_of-self : goal.invariant_of-self
invariant_of-self c =
    let is = has_index c.args.index in
    let all = c.self.inside.all.items in
    let table = c.self.inside.by_stream in
    let new = c.renew.new.by_stream in
    let key = c.in-Some.key in
    let at : option_map key_of (find is all) ≡ Some key = subst (λ xs. option_map key_of (find is xs) ≡ Some key) c.deref.ensures.value (sym c.in-Some.ensures) in
    let now : c.deref-in-Some.result.now ≡ change_first is (arrived_at c.args.to) all = c.deref-in-Some.ensures.value ∙ c.arrive.ensures.items in
    let renews : Renews (change_first is (arrived_at c.args.to) all) key table new = subst (λ xs. Renews xs key table new) now c.renew.ensures.entries in
    subst (λ xs. AreByStream xs new) (sym c.arrive.ensures.items) (holds-changed all table c.self.invariant is key (arrived_at c.args.to) (λ z. refl) at new renews)

pub returns-in_default-clause-items : goal.returns-in_default-clause-items
returns-in_default-clause-items c =
    let is = has_index c.args.index in
    let all = c.self.inside.all.items in
    let none : find is all ≡ None = unnamed (find is all) (subst (λ xs. None ≡ option_map key_of (find is xs)) c.deref.ensures.value c.in_default.ensures) in
    subst (λ xs. xs ≡ change_first is (arrived_at c.args.to) xs) (ap (λ t. t.items) c.self.view_is) (sym (none-changed is is (arrived_at c.args.to) all none))
