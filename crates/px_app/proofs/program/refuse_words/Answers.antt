use Rattle.px_app.specs.Ends.{log_end}
use Rattle.px_app.proofs.RunLaws.{is_usage}
use Rattle.px_app.proofs.program.refuse_words.Goals as goal

pub returns : goal.returns
returns g c = λ ends.
    is_usage c.report.result ends (log_end (g.L.Sink.held c.args.log.now) (g.L.Sink.faults c.args.log.now)) (log_end (g.L.Sink.held c.report.new.log) (g.L.Sink.faults c.report.new.log)) c.report.ensures
