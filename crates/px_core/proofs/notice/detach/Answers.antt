use Rattle.std.proofs.Common.{Some, None, refl, sym, ap, subst, ◌∙◌}
use Rattle.std.specs.Prelude.{slice_get}
use Rattle.px_subscribe.specs.Moments.{AreShown}
use Rattle.px_state.specs.State.{State}
use Rattle.px_state.specs.Tables.{state_of}
use Rattle.px_core.specs.Notice.{input_on, given_up}
use Rattle.px_core.specs.Step.{answered}
use Rattle.px_core.proofs.EventLaws.{ignored}
use Rattle.px_core.proofs.GroupLaws.{member_there}
use Rattle.px_core.proofs.notice.detach.Goals as goal

pub leave_with-requires-clause-member : goal.leave_with-requires-clause-member
leave_with-requires-clause-member g c =
    member_there c.args.tables.now.sinks c.args.tables.now.inputs.items c.args.tables.now.groups.items c.requires.consistent.grouped c.args.sink c.args.input (Some c.in-Some.x)
    (sym c.in-Some.is ∙ c.input_on.ensures ∙ ap (λ xs. input_on xs c.args.sink c.args.input) c.as_slice.ensures)
    (slice_get c.args.tables.now.groups.items c.args.sink.0) refl

pub leave_with-requires-clause-after : goal.leave_with-requires-clause-after
leave_with-requires-clause-after g c =
    let state = state_of c.args.tables.now in
    subst (λ o. AreShown (State.inputs (answered state (given_up g.P.Parcel.spec_of state c.args.sink o c.args.parcel))))
    (sym (sym c.in-Some.is ∙ c.input_on.ensures ∙ ap (λ xs. input_on xs c.args.sink c.args.input) c.as_slice.ensures)) c.requires.after

pub returns-in-None-clause-effects : goal.returns-in-None-clause-effects
returns-in-None-clause-effects g c =
    let state = state_of c.args.tables.now in
    ignored _ None state (given_up g.P.Parcel.spec_of state c.args.sink (input_on c.args.tables.now.inputs.items c.args.sink c.args.input) c.args.parcel) c.new.result c.new.ensures
    (ap (λ xs. given_up g.P.Parcel.spec_of state c.args.sink (input_on xs c.args.sink c.args.input) c.args.parcel) (sym c.as_slice.ensures)
    ∙ ap (λ o. given_up g.P.Parcel.spec_of state c.args.sink o c.args.parcel) (sym c.in-None.ensures))
