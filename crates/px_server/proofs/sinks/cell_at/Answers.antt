use Rattle.std.proofs.Common.{◌≡◌, [], sym, subst, refl}
use Rattle.px_ends.specs.Visible.{WhereVisible}
use Rattle.px_lane.specs.Lane.{Mixer, IsAttached}
use Rattle.px_lane_cell.specs.Cell.{IsKeyOf}
use Rattle.px_lane_cell.specs.History.{unturned}
use Rattle.px_server.proofs.sinks.cell_at.Goals as goal

pub new-requires-clause-attached : goal.new-requires-clause-attached
new-requires-clause-attached g c = c.requires.fresh.attached

pub new-requires-2-clause-unturned : goal.new-requires-2-clause-unturned
new-requires-2-clause-unturned g c = subst (λ (m : Mixer g.row.D.Denot). m.sink ≡ unturned m.sink) (sym c.in_ok-lane.ensures) refl

pub new-requires-2-clause-attached : goal.new-requires-2-clause-attached
new-requires-2-clause-attached g c = subst (λ (m : Mixer g.row.D.Denot). IsAttached (g.D.Device.now m.device) m.sink) (sym c.in_ok-lane.ensures) c.requires.fresh.attached

pub new-requires-2-clause-unplayed : goal.new-requires-2-clause-unplayed
new-requires-2-clause-unplayed g c = subst (λ (m : Mixer g.row.D.Denot). WhereVisible (g.D.Device.now m.device).played (λ bytes. bytes ≡ [])) (sym c.in_ok-lane.ensures) c.requires.fresh.unplayed

pub new-requires-2-clause-unnoted : goal.new-requires-2-clause-unnoted
new-requires-2-clause-unnoted g c = c.requires.fresh.unnoted

pub new-requires-2-clause-ends : goal.new-requires-2-clause-ends
new-requires-2-clause-ends g c = c.requires.ends.0

pub new-requires-2-clause-key : goal.new-requires-2-clause-key
new-requires-2-clause-key g c = subst (λ (m : Mixer g.row.D.Denot). IsKeyOf c.args.ends m.sink) (sym c.in_ok-lane.ensures) c.requires.ends.1

pub new-requires-2-clause-untaken : goal.new-requires-2-clause-untaken
new-requires-2-clause-untaken g c = c.requires.unmoved.0

pub new-requires-2-clause-unposted : goal.new-requires-2-clause-unposted
new-requires-2-clause-unposted g c = c.requires.unmoved.1
