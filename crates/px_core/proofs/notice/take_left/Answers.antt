use Rattle.std.proofs.Common.{Some, ap, ◌∙◌}
use Rattle.std.specs.Prelude.{slice_get}
use Rattle.px_state.specs.Tables.{state_of}
use Rattle.px_core.specs.Notice.{left_of}
use Rattle.px_core.proofs.ShownLaws.{left_same, same_shown}
use Rattle.px_core.proofs.notice.take_left.Goals as goal

pub finish-requires-clause-after : goal.finish-requires-clause-after
finish-requires-clause-after g c =
    let state = state_of c.args.tables.now in
    same_shown g.P.Parcel.spec_of state c.in-Ok.outcome (left_of g.P.Parcel.spec_of state c.args.sink (Some c.args.x) c.args.parcel)
    (c.in-Ok.ensures
    ∙ left_same g.P.Parcel.spec_of state c.args.x _ _ _ _ _ _
    (c.group_on-group.ensures ∙ ap (λ groups. slice_get groups c.args.sink.0) c.deref.ensures.value) c.spec.ensures c.as_slice.ensures)
    c.requires.after
