use Rattle.std.proofs.Common.{◌∙◌, sym, ap}
use Rattle.px_ctl_play.specs.Arrival.{hands_over}
use Rattle.px_state.specs.Tables.{state_of}
use Rattle.px_core.proofs.ShownLaws.{state_shown, staying_shown, arrived_shown}
use Rattle.px_core.proofs.notice.leave_with.Goals as goal

pub arrive_with-requires-clause-after : goal.arrive_with-requires-clause-after
arrive_with-requires-clause-after g c =
    arrived_shown g.P.Parcel.spec_of (state_of c.args.tables.now) c.args.sink c.args.x c.args.parcel c.requires.after c.in-Moving.to c.in-Moving.is
    (sym (ap (λ spec. hands_over spec c.args.x) c.spec.ensures) ∙ sym c.hands_over.ensures ∙ c.if-hands_over.true)

pub take_left-requires-in-Settled : goal.take_left-requires-in-Settled
take_left-requires-in-Settled g c = record {
  sinks = c.requires.consistent.steady.sinks;
  member = c.requires.member;
  before = state_shown g.P.Parcel.spec_of (state_of c.args.tables.now) c.requires.consistent;
  after = staying_shown g.P.Parcel.spec_of (state_of c.args.tables.now) c.args.sink c.args.x c.args.parcel c.requires.after c.in-Settled.is;
}
