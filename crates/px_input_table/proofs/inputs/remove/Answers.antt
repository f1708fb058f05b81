use Rattle.std.proofs.Common.{◌≡◌, Some, None, sym, ◌∙◌}
use Rattle.std.specs.List.{position}
use Rattle.px_outcome.specs.Input.{has_index}
use Rattle.px_input_table.proofs.First.{dropped, undropped}
use Rattle.px_input_table.proofs.inputs.remove.Goals as goal

pub returns-in-Some-clause-items : goal.returns-in-Some-clause-items
returns-in-Some-clause-items c =
    let found : position (has_index c.args.index) c.args.inputs.now.items ≡ Some c.in-Some.place = rw (← c.as_slice.ensures.value) (sym c.in-Some.ensures) in
    c.remove.ensures.items ∙ dropped (has_index c.args.index) c.args.inputs.now.items c.in-Some.place c.remove.result found

pub returns-in_default-clause-items : goal.returns-in_default-clause-items
returns-in_default-clause-items c =
    let found : position (has_index c.args.index) c.args.inputs.now.items ≡ None = rw (← c.as_slice.ensures.value) (sym c.in_default.ensures) in
    undropped (has_index c.args.index) c.args.inputs.now.items found
