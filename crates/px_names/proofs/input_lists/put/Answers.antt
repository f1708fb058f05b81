use Rattle.std.proofs.Common.{◌≡◌, Some, None, slice_set, sym, subst, ap, ◌∙◌}
use Rattle.std.specs.List.{position}
use Rattle.px_names.specs.declared.input_lists.InputList.{InputList}
use Rattle.px_names.specs.InputLists.{is_of, with_list_of, RisesFrom}
use Rattle.px_names.proofs.Listed.{put_in_place, put_behind}
use Rattle.px_names.proofs.Halved.{set_rises}
use Rattle.px_names.proofs.input_lists.put.Goals as goal

pub returns-in-Some-clause-items : goal.returns-in-Some-clause-items
returns-in-Some-clause-items c =
    let is = is_of c.args.input in
    let all = c.args.lists.now.items in
    let found : position is all ≡ Some c.in-Some.place = rw (← c.as_slice-held.ensures.value) (sym c.in-Some.ensures) in
    ap (λ (l : InputList). slice_set all c.in-Some.place (record l { list = c.args.list })) c.index_mut.ensures.value ∙ sym (put_in_place c.args.input c.args.list all c.in-Some.place c.index_mut.result.now found)

pub returns-in-Some-clause-rising : goal.returns-in-Some-clause-rising
returns-in-Some-clause-rising c rising =
    let all = c.args.lists.now.items in
    let found : position (is_of c.args.input) all ≡ Some c.in-Some.place = rw (← c.as_slice-held.ensures.value) (sym c.in-Some.ensures) in
    subst (RisesFrom 0) (sym (returns-in-Some-clause-items c)) (set_rises 0 c.args.input c.args.list all c.in-Some.place c.index_mut.result.now found (c.requires.rising rising))

pub returns-in-None-clause-items : goal.returns-in-None-clause-items
returns-in-None-clause-items c =
    let found : position (is_of c.args.input) c.args.lists.now.items ≡ None = rw (← c.as_slice-held.ensures.value) (sym c.in-None.ensures) in
    c.push_reserved.ensures.items ∙ sym (put_behind c.args.input c.args.list c.args.lists.now.items found)
