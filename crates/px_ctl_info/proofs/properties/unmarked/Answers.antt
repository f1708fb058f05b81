use Rattle.std.proofs.Common.{arith, ◌≡◌, ◌<◌, [], length, get_or, ◌∙◌}
use Rattle.std.proofs.lemmas.Option.{slice_get-get_or}
use Rattle.px_tag.specs.PropList.{Property}
use Rattle.px_ctl_info.proofs.Removed.{kept_next, kept_last}
use Rattle.px_ctl_info.proofs.properties.unmarked.Goals as goal

pub loop-place-preserved : goal.loop-place-preserved
loop-place-preserved c =
    let list = c.args.list.now in
    let place = c.loop-place.place in
    let d : Property = ([], []) in
    let within : place < length list = omega (arith, c.loop-place-test.true, c.len-place-end.ensures.count) in
    kept_next c.args.marks.now list c.loop-place.made c.add_at.new.made place d within (c.in_ok-add_at.ensures (get_or list place d) (slice_get-get_or list place d within)) ∙ c.loop-place.invariant

pub returns : goal.returns
returns c = kept_last c.args.marks.now c.args.list.now c.loop-place.made _ c.loop-place.place (omega (arith, c.loop-place-test.false, c.len-place-end.ensures.count)) c.loop-place.invariant
