use Rattle.std.proofs.Common.{◌≡◌, Some, None, sym, ◌∙◌}
use Rattle.std.specs.List.{position}
use Rattle.px_flat.specs.Member.{is_input}
use Rattle.px_flat.proofs.Found.{removed, unremoved}
use Rattle.px_flat.proofs.members.forget.Goals as goal

pub returns-in-Some : goal.returns-in-Some
returns-in-Some c =
    let place : position (is_input c.args.input) c.args.members.now.items ≡ Some c.in-Some.place = rw (← c.as_slice.ensures.value) (sym c.in-Some.ensures) in
    c.remove.ensures.items ∙ removed (is_input c.args.input) c.args.members.now.items c.in-Some.place c.remove.result place

pub returns-in_default : goal.returns-in_default
returns-in_default c =
    let none : position (is_input c.args.input) c.args.members.now.items ≡ None = rw (← c.as_slice.ensures.value) (sym c.in_default.ensures) in
    unremoved (is_input c.args.input) c.args.members.now.items none
