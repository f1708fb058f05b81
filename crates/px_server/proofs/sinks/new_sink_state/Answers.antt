use Rattle.std.proofs.Common.{ap, sym, subst, ◌∙◌}
use Rattle.px_lane_cell.specs.History.{unturned}
use Rattle.px_workers.specs.Hosted.{IsCauseOf}
use Rattle.px_workers.specs.Working.{start_of, tapes_in}
use Rattle.px_server.specs.Mailboxes.{boxes_in}
use Rattle.px_server.proofs.Making.{lent_fewer}
use Rattle.px_server.proofs.Parts.{begun}
use Rattle.px_server.proofs.sinks.new_sink_state.Goals as goal

pub cell_of-requires-clause-sink : goal.cell_of-requires-clause-sink
cell_of-requires-clause-sink g c = c.requires

pub cell_of-requires-clause-fresh : goal.cell_of-requires-clause-fresh
cell_of-requires-clause-fresh g c = c.in-Ok.ensures.fresh

pub returns-in-Err-clause-later : goal.returns-in-Err-clause-later
returns-in-Err-clause-later g c = c.outside.ensures.later

pub returns-in-Err-clause-lent_stays : goal.returns-in-Err-clause-lent_stays
returns-in-Err-clause-lent_stays g c = c.in-Err.ensures.lent_stays

pub returns-in-Err-clause-cause : goal.returns-in-Err-clause-cause
returns-in-Err-clause-cause g c = subst (λ (s : _). IsCauseOf s (g.H.Host.now c.args.host.now) (g.H.Host.now c.outside.new.host)) (sym c.stop_by.ensures) c.in-Err.ensures.cause

pub returns-in_default-clause-later : goal.returns-in_default-clause-later
returns-in_default-clause-later g c = c.outside.ensures.later

pub returns-in_default-clause-lent_stays : goal.returns-in_default-clause-lent_stays
returns-in_default-clause-lent_stays g c = λ n lent. lent_fewer n (g.H.Host.now c.outside.new.host) (c.in-Ok.ensures.lent n lent)

pub returns-in_default-clause-cause : goal.returns-in_default-clause-cause
returns-in_default-clause-cause g c = tt

pub returns-clause-later : goal.returns-clause-later
returns-clause-later g c = c.outside.ensures.later

pub returns-clause-lent : goal.returns-clause-lent
returns-clause-lent g c = c.in-Ok.ensures.lent

pub returns-clause-made : goal.returns-clause-made
returns-clause-made g c = record {
  start = ap start_of c.new-idle.ensures ∙ ap (λ (s : _). begun c.args.index (unturned s)) c.in-Ok-cell_of.ensures.sink;
  fresh = c.in-Ok-cell_of.ensures.core;
  boxes = ap boxes_in c.new-idle.ensures ∙ c.in-Ok-cell_of.ensures.boxes;
  tapes = ap tapes_in c.new-idle.ensures ∙ c.turns_of.ensures.tapes;
}
