use Rattle.std.proofs.Common.{Some, ap, sym, ◌∙◌}
use Rattle.px_flat.specs.Member.{is_input}
use Rattle.px_flat.proofs.Found.{found, has_place}
use Rattle.px_flat.proofs.members.member_of.Goals as goal

pub unwrap-place-requires : goal.unwrap-place-requires
unwrap-place-requires c = has_place (is_input c.args.input) c.args.members.now c.place_of.result c.place_of.ensures c.requires

pub returns : goal.returns
returns c =
    let d = c.index-members-place.result in
    found (is_input c.args.input) c.args.members.now c.unwrap-place.result d (sym c.place_of.ensures ∙ c.unwrap-place.ensures)
    ∙ ap Some (sym c.index-members-place.is)
