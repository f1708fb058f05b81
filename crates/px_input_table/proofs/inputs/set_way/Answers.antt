use Rattle.std.proofs.Common.{◌≡◌, Some, None, slice_set, sym, subst, ap, ◌∙◌}
use Rattle.std.specs.List.{position}
use Rattle.px_outcome.specs.Input.{has_index}
use Rattle.px_input_table.specs.Inputs.{on_way}
use Rattle.px_input_table.proofs.First.{changed, unchanged}
use Rattle.px_input_table.proofs.inputs.set_way.Goals as goal

pub returns-in-Some-clause-items : goal.returns-in-Some-clause-items
returns-in-Some-clause-items c =
    let is = has_index c.args.index in
    let all = c.args.inputs.now.items in
    let found : position is all ≡ Some c.in-Some.place = subst (λ xs. position is xs ≡ Some c.in-Some.place) c.deref.ensures.value (sym c.in-Some.ensures) in
    ap (λ x. slice_set all c.in-Some.place ((on_way c.args.way) x)) c.index_mut.ensures.value ∙ sym (changed is (on_way c.args.way) all c.in-Some.place c.index_mut.result.now found)

pub returns-in_default-clause-items : goal.returns-in_default-clause-items
returns-in_default-clause-items c =
    let is = has_index c.args.index in
    unchanged is (on_way c.args.way) c.args.inputs.now.items (subst (λ xs. position is xs ≡ None) c.deref.ensures.value (sym c.in_default.ensures))
