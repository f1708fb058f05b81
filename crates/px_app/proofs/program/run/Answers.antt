use Rattle.std.proofs.Common.{map, string_bytes, refl, sym, ◌∙◌}
use Rattle.px_app.specs.Outside.{outside_of}
use Rattle.px_app.proofs.RunLaws.{does_serve, does_control, does_alone, serves}
use Rattle.px_app.proofs.program.run.Goals as goal

pub returns-then-is_serve : goal.returns-then-is_serve
returns-then-is_serve g c =
    let texts = map string_bytes c.args.words.now in
    let before = (outside_of (g.S.Source.left c.args.input.now) (g.S.Source.faults c.args.input.now) (g.K.Sink.held c.args.output.now) (g.K.Sink.faults c.args.output.now) (g.L.Sink.held c.args.log.now) (g.L.Sink.faults c.args.log.now) (g.H.Host.now c.args.host.now) (g.H.Host.dialled c.args.host.now)) in
    let after = (outside_of (g.S.Source.left c.args.input.now) (g.S.Source.faults c.args.input.now) (g.K.Sink.held c.serve_reported.new.output) (g.K.Sink.faults c.serve_reported.new.output) (g.L.Sink.held c.serve_reported.new.log) (g.L.Sink.faults c.serve_reported.new.log) (g.H.Host.now c.serve_reported.new.host) (g.H.Host.dialled c.serve_reported.new.host)) in
    does_serve g.H.C.Recorder.visible g.H.C.Recorder.faults g.H.C.Recorder.fulls g.H.D.Device.now g.H.R.Recorder.visible g.H.R.Recorder.faults g.H.R.Recorder.fulls
    g.H.L.Link.left g.H.L.Link.sent g.H.L.Link.counts texts c.serve_reported.result before after (sym c.is_serve.ensures ∙ c.if-is_serve.true)
    (serves g.H.C.Recorder.visible g.H.C.Recorder.faults g.H.C.Recorder.fulls g.H.D.Device.now g.H.R.Recorder.visible g.H.R.Recorder.faults g.H.R.Recorder.fulls
    texts c.serve_reported.result before after c.serve_reported.ensures.served refl refl c.serve_reported.ensures.dialled)

pub returns-then-is_ctl : goal.returns-then-is_ctl
returns-then-is_ctl g c =
    let texts = map string_bytes c.args.words.now in
    let before = (outside_of (g.S.Source.left c.args.input.now) (g.S.Source.faults c.args.input.now) (g.K.Sink.held c.args.output.now) (g.K.Sink.faults c.args.output.now) (g.L.Sink.held c.args.log.now) (g.L.Sink.faults c.args.log.now) (g.H.Host.now c.args.host.now) (g.H.Host.dialled c.args.host.now)) in
    let after = (outside_of (g.S.Source.left c.control_reported.new.input) (g.S.Source.faults c.control_reported.new.input) (g.K.Sink.held c.control_reported.new.output) (g.K.Sink.faults c.control_reported.new.output) (g.L.Sink.held c.control_reported.new.log) (g.L.Sink.faults c.control_reported.new.log) (g.H.Host.now c.control_reported.new.host) (g.H.Host.dialled c.control_reported.new.host)) in
    does_control g.H.C.Recorder.visible g.H.C.Recorder.faults g.H.C.Recorder.fulls g.H.D.Device.now g.H.R.Recorder.visible g.H.R.Recorder.faults g.H.R.Recorder.fulls
    g.H.L.Link.left g.H.L.Link.sent g.H.L.Link.counts texts c.control_reported.result before after (sym c.is_serve.ensures ∙ c.if-is_serve.false) (sym c.is_ctl.ensures ∙ c.if-is_ctl.true)
    c.control_reported.ensures

pub returns-else-is_ctl : goal.returns-else-is_ctl
returns-else-is_ctl g c =
    let texts = map string_bytes c.args.words.now in
    let before = (outside_of (g.S.Source.left c.args.input.now) (g.S.Source.faults c.args.input.now) (g.K.Sink.held c.args.output.now) (g.K.Sink.faults c.args.output.now) (g.L.Sink.held c.args.log.now) (g.L.Sink.faults c.args.log.now) (g.H.Host.now c.args.host.now) (g.H.Host.dialled c.args.host.now)) in
    let after = (outside_of (g.S.Source.left c.run_alone.new.input) (g.S.Source.faults c.run_alone.new.input) (g.K.Sink.held c.run_alone.new.output) (g.K.Sink.faults c.run_alone.new.output) (g.L.Sink.held c.run_alone.new.log) (g.L.Sink.faults c.run_alone.new.log) (g.H.Host.now c.args.host.now) (g.H.Host.dialled c.args.host.now)) in
    does_alone g.H.C.Recorder.visible g.H.C.Recorder.faults g.H.C.Recorder.fulls g.H.D.Device.now g.H.R.Recorder.visible g.H.R.Recorder.faults g.H.R.Recorder.fulls
    g.H.L.Link.left g.H.L.Link.sent g.H.L.Link.counts texts c.run_alone.result before after (sym c.is_serve.ensures ∙ c.if-is_serve.false) (sym c.is_ctl.ensures ∙ c.if-is_ctl.false)
    c.run_alone.ensures (refl, refl)
