use Rattle.std.proofs.Common.{◌≡◌, None, Some, inr, ap, sym, subst, ◌∙◌}
use Rattle.std.specs.List.{find}
use Rattle.std.specs.Option.{option_map, IsSome}
use Rattle.px_outcome.specs.Input.{has_index}
use Rattle.px_input_table.specs.Lists.{drop_first}
use Rattle.px_input_table.specs.InputTable.{AreByStream, first_of, key_of}
use Rattle.px_input_table.proofs.ByStream.{Renews, unnamed, holds-dropped, there-dropped, none-dropped}
use Rattle.px_input_table.proofs.input_table.InputTable.remove.Goals as goal

pub renew-requires : goal.renew-requires
renew-requires c = λ some.
    let is = has_index c.args.index in
    let all = c.self.inside.all.items in
    let key = c.in-Some.key in
    let now : c.deref-in-Some.result.now ≡ drop_first is all = c.deref-in-Some.ensures.value ∙ c.remove.ensures.items in
    inr (there-dropped all c.self.inside.by_stream c.self.invariant is key (subst (λ xs. IsSome (first_of xs key)) now some))

pub invariant_of-self : goal.invariant_of-self
invariant_of-self c =
    let is = has_index c.args.index in
    let all = c.self.inside.all.items in
    let table = c.self.inside.by_stream in
    let new = c.renew.new.by_stream in
    let key = c.in-Some.key in
    let at : option_map key_of (find is all) ≡ Some key = subst (λ xs. option_map key_of (find is xs) ≡ Some key) c.deref.ensures.value (sym c.in-Some.ensures) in
    let now : c.deref-in-Some.result.now ≡ drop_first is all = c.deref-in-Some.ensures.value ∙ c.remove.ensures.items in
    let renews : Renews (drop_first is all) key table new = subst (λ xs. Renews xs key table new) now c.renew.ensures.entries in
    subst (λ xs. AreByStream xs new) (sym c.remove.ensures.items) (holds-dropped all table c.self.invariant is key at new renews)

pub returns-in_default-clause-items : goal.returns-in_default-clause-items
returns-in_default-clause-items c =
    let is = has_index c.args.index in
    let all = c.self.inside.all.items in
    let none : find is all ≡ None = unnamed (find is all) (subst (λ xs. None ≡ option_map key_of (find is xs)) c.deref.ensures.value c.in_default.ensures) in
    subst (λ xs. xs ≡ drop_first is xs) (ap (λ t. t.items) c.self.view_is) (sym (none-dropped is is (λ z. z) all none))
