use Rattle.std.proofs.Common.{sym, ap, ◌∙◌}
use Rattle.std.specs.Prelude.{slice_get}
use Rattle.px_state.specs.Tables.{state_of}
use Rattle.px_core.proofs.JoinLaws.{some_channel, has_channels, can_join}
use Rattle.px_core.proofs.arriving.arrival_on.Goals as goal

pub arrive-requires-clause-some : goal.arrive-requires-clause-some
arrive-requires-clause-some g c = some_channel g.P.Parcel.spec_of (state_of c.args.tables.now) c.requires.consistent c.args.x.now c.requires.here

pub arrive-requires-clause-channels : goal.arrive-requires-clause-channels
arrive-requires-clause-channels g c =
    has_channels g.P.Parcel.spec_of (state_of c.args.tables.now) c.requires.consistent c.args.x.now c.requires.here c.in-Some.from.now
    (sym (c.in-Some.ensures ∙ ap (λ gs. slice_get gs c.args.x.now.sink.0) c.deref.ensures.value))

pub arrive-requires-clause-joins : goal.arrive-requires-clause-joins
arrive-requires-clause-joins g c =
    can_join g.P.Parcel.spec_of (state_of c.args.tables.now) c.requires.consistent c.args.x.now c.requires.here c.args.to c.requires.moves c.args.sink.now c.requires.there
    c.in-Some-group_on.group.now
    (sym (c.in-Some-group_on.ensures ∙ ap (λ gs. slice_get gs c.args.to.0) c.deref-2.ensures.value))

pub arrive-requires-clause-sink : goal.arrive-requires-clause-sink
arrive-requires-clause-sink g c = c.requires.lawful
