use Rattle.std.proofs.Common.{Err, map, string_bytes, refl, ap, ◌∙◌}
use Rattle.px_app.proofs.ControlLaws.{unsaid, controlled}
use Rattle.px_app.proofs.controlling.control_reported.Goals as goal

pub returns-in-Ok : goal.returns-in-Ok
returns-in-Ok g c =
    controlled g.H.L.Link.left g.H.L.Link.sent g.H.L.Link.counts (map string_bytes c.args.words.now) _ _ c.report_control.result
    (record { said = c.in-Ok.said; is_said = c.in-Ok.ensures.said; end = c.control-end.result; controls = c.control-end.ensures; reported = c.report_control.ensures })

pub returns-in-Err-Usage : goal.returns-in-Err-Usage
returns-in-Err-Usage g c =
    unsaid g.H.L.Link.left g.H.L.Link.sent g.H.L.Link.counts (map string_bytes c.args.words.now) _ _ c.report.result
    (c.in-Err-Usage.ensures.none c.in-Err-Usage.field-0-is) (record { ends = refl; host = (refl, refl); reported = c.report.ensures })
