use Rattle.std.proofs.Common.{◌≡◌, Some, None, ap, sym, subst, ◌∙◌, slice_set, length}
use Rattle.std.specs.List.{position}
use Rattle.px_flat.specs.declared.member.Member.{Member}
use Rattle.px_flat.specs.Member.{is_input, with_volume, SuitsChannels}
use Rattle.px_flat.proofs.Found.{changed, unchanged, found_has}
use Rattle.px_flat.proofs.members.set_volume.Goals as goal

pub set_volume-requires : goal.set_volume-requires
set_volume-requires c =
    let place : position (is_input c.args.input) c.args.members.now.items ≡ Some c.in-Some.place = rw (← c.as_slice.ensures.value) (sym c.in-Some.ensures) in
    subst (λ (m : Member). SuitsChannels c.args.volume.now (length m.volume)) (sym c.index_mut.ensures.value)
    (found_has (λ (m : Member). SuitsChannels c.args.volume.now (length m.volume)) (is_input c.args.input) c.args.members.now.items c.in-Some.place c.index_mut.result.now place c.requires)

pub returns-in-Some : goal.returns-in-Some
returns-in-Some c =
    let place : position (is_input c.args.input) c.args.members.now.items ≡ Some c.in-Some.place = rw (← c.as_slice.ensures.value) (sym c.in-Some.ensures) in
    ap (λ (m : Member). slice_set c.args.members.now.items c.in-Some.place m) (c.set_volume.ensures ∙ ap (with_volume c.args.volume.now) c.index_mut.ensures.value)
    ∙ sym (changed (is_input c.args.input) (with_volume c.args.volume.now) c.args.members.now.items c.in-Some.place c.index_mut.result.now place)

pub returns-in_default : goal.returns-in_default
returns-in_default c =
    let none : position (is_input c.args.input) c.args.members.now.items ≡ None = rw (← c.as_slice.ensures.value) (sym c.in_default.ensures) in
    unchanged (is_input c.args.input) (with_volume c.args.volume.now) c.args.members.now.items none
