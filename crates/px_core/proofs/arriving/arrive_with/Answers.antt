use Rattle.std.proofs.Common.{None, sym, ap, ◌∙◌}
use Rattle.px_ctl_play.specs.Arrival.{arriving_with}
use Rattle.px_core.specs.Notice.{arrival_at, arrived_with}
use Rattle.px_state.specs.Tables.{state_of}
use Rattle.px_core.proofs.EventLaws.{ignored}
use Rattle.px_core.proofs.ShownLaws.{same_shown}
use Rattle.px_core.proofs.arriving.arrive_with.Goals as goal

pub returns-in-Ok-None-clause-effects : goal.returns-in-Ok-None-clause-effects
returns-in-Ok-None-clause-effects g c =
    let state = state_of c.args.tables.now in
    ignored _ None state (arrived_with c.args.x.now.index c.args.parcel (arrival_at state c.args.to c.args.x.now)) c.new.result c.new.ensures
    (ap (λ o. arrived_with c.args.x.now.index c.args.parcel o) (sym c.in-Ok-None.ensures ∙ c.in-Ok-None.field-0-is))

pub finish_arrival-requires-clause-after : goal.finish_arrival-requires-clause-after
finish_arrival-requires-clause-after g c =
    let state = state_of c.args.tables.now in
    same_shown g.P.Parcel.spec_of state (arriving_with c.args.x.now.index c.args.parcel c.in-Ok-Some.made) (arrived_with c.args.x.now.index c.args.parcel (arrival_at state c.args.to c.args.x.now))
    (ap (λ o. arrived_with c.args.x.now.index c.args.parcel o) (sym c.in-Ok-Some.field-0-is ∙ sym (sym c.in-Ok-Some.ensures))) c.requires.after
