use Rattle.px_app.specs.Ends.{ends_of, log_end}
use Rattle.px_app.proofs.ConvertLaws.{converts}
use Rattle.px_app.proofs.converting.convert.Goals as goal

pub returns : goal.returns
returns g c =
    converts c.report.result
    (ends_of (g.S.Source.left c.args.input.now) (g.S.Source.faults c.args.input.now) (g.K.Sink.held c.args.output.now) (g.K.Sink.faults c.args.output.now))
    (ends_of (g.S.Source.left c.convert_input-ended.new.input) (g.S.Source.faults c.convert_input-ended.new.input) (g.K.Sink.held c.convert_input-ended.new.output) (g.K.Sink.faults c.convert_input-ended.new.output))
    (log_end (g.L.Sink.held c.args.log.now) (g.L.Sink.faults c.args.log.now)) (log_end (g.L.Sink.held c.report.new.log) (g.L.Sink.faults c.report.new.log))
    (record { ended = c.convert_input-ended.result; played = c.convert_input-ended.ensures.played; counted = c.convert_input-ended.ensures.counted; reported = c.report.ensures })
