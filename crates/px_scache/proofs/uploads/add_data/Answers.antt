use Rattle.std.proofs.Common.{◌≡◌, Some, None, ap, sym, ◌∙◌, slice_set}
use Rattle.std.specs.List.{position}
use Rattle.px_scache.specs.declared.upload.Upload.{Upload}
use Rattle.px_scache.specs.Uploads.{is_upload, added}
use Rattle.px_scache.proofs.Changed.{changed, unchanged, if_done}
use Rattle.px_scache.proofs.uploads.add_data.Goals as goal

pub returns-in-None-clause-value : goal.returns-in-None-clause-value
returns-in-None-clause-value c =
    let none : position (is_upload c.args.conn c.args.stream) c.args.list.now.items ≡ None = rw (← c.as_slice.ensures.value) (sym c.in-None.ensures) in
    unchanged (is_upload c.args.conn c.args.stream) (added c.args.bytes.now) c.args.list.now.items none

pub returns-in-Some-clause-value : goal.returns-in-Some-clause-value
returns-in-Some-clause-value c =
    let place : position (is_upload c.args.conn c.args.stream) c.args.list.now.items ≡ Some c.in-Some.place = rw (← c.as_slice.ensures.value) (sym c.in-Some.ensures) in
    if_done c.add_to.result _ _ (λ e. ap (λ (u : Upload). slice_set c.args.list.now.items c.in-Some.place u) (e ∙ ap (added c.args.bytes.now) c.index_mut.ensures.value)
    ∙ sym (changed (is_upload c.args.conn c.args.stream) (added c.args.bytes.now) c.args.list.now.items c.in-Some.place c.index_mut.result.now place)) c.add_to.ensures.added
