use Rattle.std.proofs.Common.{◌∙◌}
use Rattle.px_ctl.proofs.Counting.{over_link}
use Rattle.px_ctl.proofs.call.call.Goals as goal

pub returns-in-Link : goal.returns-in-Link
returns-in-Link g c =
    over_link g.H.L.Link.left g.H.L.Link.sent g.H.L.Link.counts c.args.cookie.now c.args.said.now.errand _ _ c.client-end.result c.in-Link.link c.client-end.new.link
    (g.H.Host.dialled c.connect.new.self) c.in-Link.ensures.dialled.0 c.in-Link.ensures.dialled.1 c.client-end.ensures c.hang_up.ensures.dialled
    (c.hang_up.ensures.host ∙ c.in-Link.ensures.host)
