use Rattle.px_server.proofs.Delivering.{closed_part, closed_by}
use Rattle.px_server.proofs.left.closed.Goals as goal

pub returns-clause-part : goal.returns-clause-part
returns-clause-part g c = λ began sink_fault honest.
    let parts = c.into_parts-lane in
    closed_part g.D.Device.now g.E.Recorder.visible g.E.Recorder.faults g.E.Recorder.fulls began c.args.sink c.args.cell parts.result.lane parts.result.recorder c.into_device.result sink_fault
    parts.ensures.holds parts.ensures.lane parts.ensures.recorder c.into_device.ensures honest

pub returns-clause-delivered : goal.returns-clause-delivered
returns-clause-delivered g c = λ began entries visible.
    let parts = c.into_parts-lane in
    closed_by g.D.Device.now g.E.Recorder.visible c.args.cell parts.result.ends parts.result.recorder began entries c.args.sink c.args.end c.close.ensures.0 c.close-2.ensures.0
    parts.ensures.holds parts.ensures.ends parts.ensures.recorder c.close.ensures.1 c.close-2.ensures.1 visible
