use Rattle.std.proofs.Common.{◌≡◌, Some, None, sym, subst, ◌∙◌}
use Rattle.std.specs.List.{position}
use Rattle.px_names.specs.InputLists.{is_of, RisesFrom}
use Rattle.px_names.proofs.Listed.{dropped, undropped}
use Rattle.px_names.proofs.Halved.{removed_rises}
use Rattle.px_names.proofs.input_lists.drop_of.Goals as goal

pub returns-in-Some-clause-items : goal.returns-in-Some-clause-items
returns-in-Some-clause-items c =
    let found : position (is_of c.args.input) c.args.lists.now.items ≡ Some c.in-Some.place = rw (← c.as_slice.ensures.value) (sym c.in-Some.ensures) in
    c.remove.ensures.items ∙ dropped c.args.input c.args.lists.now.items c.in-Some.place c.remove.result found

pub returns-in-Some-clause-rising : goal.returns-in-Some-clause-rising
returns-in-Some-clause-rising c rising =
    subst (RisesFrom 0) (sym (returns-in-Some-clause-items c)) (removed_rises 0 c.args.input c.args.lists.now.items (c.requires rising))

pub returns-in_default-clause-items : goal.returns-in_default-clause-items
returns-in_default-clause-items c =
    let found : position (is_of c.args.input) c.args.lists.now.items ≡ None = rw (← c.as_slice.ensures.value) (sym c.in_default.ensures) in
    undropped c.args.input c.args.lists.now.items found
