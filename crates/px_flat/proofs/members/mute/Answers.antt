use Rattle.std.proofs.Common.{◌≡◌, Some, None, ap, sym, ◌∙◌, slice_set}
use Rattle.std.specs.List.{position}
use Rattle.px_flat.specs.declared.member.Member.{Member}
use Rattle.px_flat.specs.Member.{is_input, with_mute}
use Rattle.px_flat.proofs.Found.{changed, unchanged}
use Rattle.px_flat.proofs.members.mute.Goals as goal

pub returns-in-Some : goal.returns-in-Some
returns-in-Some c =
    let place : position (is_input c.args.input) c.args.members.now.items ≡ Some c.in-Some.place = rw (← c.as_slice.ensures.value) (sym c.in-Some.ensures) in
    ap (λ (m : Member). slice_set c.args.members.now.items c.in-Some.place (with_mute c.args.on m)) c.index_mut.ensures.value
    ∙ sym (changed (is_input c.args.input) (with_mute c.args.on) c.args.members.now.items c.in-Some.place c.index_mut.result.now place)

pub returns-in_default : goal.returns-in_default
returns-in_default c =
    let none : position (is_input c.args.input) c.args.members.now.items ≡ None = rw (← c.as_slice.ensures.value) (sym c.in_default.ensures) in
    unchanged (is_input c.args.input) (with_mute c.args.on) c.args.members.now.items none
