use Rattle.std.proofs.Common.{Err, map, string_bytes, refl, ap, ◌∙◌}
use Rattle.px_app.specs.Tape.{out_end}
use Rattle.px_app.proofs.ServeLaws.{not_both, served_by}
use Rattle.px_app.proofs.serve.call.serve_by.Goals as goal

pub returns-in-Err-Usage-clause-serves : goal.returns-in-Err-Usage-clause-serves
returns-in-Err-Usage-clause-serves g c =
    let usage = c.read_serve_words.ensures.usage (c.in-Err-Usage.is ∙ ap Err c.in-Err-Usage.field-0-is) in
    ((usage, λ said plain. not_both c.in-Err-Usage.field-0 c.in-Err-Usage.field-0-is (c.in-Err-Usage.ensures.plain said plain)), refl, refl)

pub returns-in-Ok-new-clause-serves : goal.returns-in-Ok-new-clause-serves
returns-in-Ok-new-clause-serves g c =
    served_by g.H.C.Recorder.visible g.H.C.Recorder.faults g.H.C.Recorder.fulls g.H.D.Device.now g.H.R.Recorder.visible g.H.R.Recorder.faults g.H.R.Recorder.fulls
    (map string_bytes c.args.words.now) c.in-Ok.said c.serve_with.result (g.H.Host.now c.args.host.now) (g.H.Host.now c.serve_with.new.host)
    (out_end (g.K.Sink.held c.args.output.now) (g.K.Sink.faults c.args.output.now)) (out_end (g.K.Sink.held c.serve_with.new.output) (g.K.Sink.faults c.serve_with.new.output))
    (record { taken = c.in-Ok.ensures.read.0; reads = c.in-Ok.ensures.read.1; plain = c.in-Ok.ensures.plain }) c.serve_with.ensures.serves
