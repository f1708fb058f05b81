use Rattle.std.proofs.Common.{◌≡◌, ◌∙◌, [], ap, sym, subst, IfSome}
use Rattle.px_lane.specs.Lane.{Mixer}
use Rattle.px_server.specs.Mailboxes.{boxes_at}
use Rattle.px_server.proofs.Making.{fresh_honest}
use Rattle.px_server.proofs.sinks.cell_of.Goals as goal

pub returns-clause-sink : goal.returns-clause-sink
returns-clause-sink g c = ap (λ (m : Mixer g.row.D.Denot). m.sink) c.in-Ok.ensures.lane

pub returns-clause-honest : goal.returns-clause-honest
returns-clause-honest g c =
    fresh_honest g.D.Device.now g.E.Recorder.visible g.E.Recorder.faults g.E.Recorder.fulls c.args.sink.now c.args.device c.args.recorder c.in-Ok.cell
    c.requires.fresh c.in-Ok.ensures.lane c.in-Ok.ensures.recorder

pub returns-clause-unnoted : goal.returns-clause-unnoted
returns-clause-unnoted g c = subst (λ (r : g.row.E.Denot). IfSome (g.E.Recorder.visible r) (λ entries. entries ≡ [])) (sym c.in-Ok.ensures.recorder) c.requires.fresh.unnoted

pub returns-clause-core : goal.returns-clause-core
returns-clause-core g c = c.in_ok-ends.ensures.core

pub returns-clause-boxes : goal.returns-clause-boxes
returns-clause-boxes g c = ap boxes_at c.in-Ok.ensures.ends ∙ c.in_ok-ends.ensures.boxes
