use Rattle.px_app.specs.Ends.{ends_of, log_end}
use Rattle.px_app.proofs.RunLaws.{generates}
use Rattle.px_app.proofs.making.make.Goals as goal

pub returns : goal.returns
returns g c = λ left read.
    generates c.args.number c.args.count c.make_reported.result
    (ends_of left read (g.K.Sink.held c.args.output.now) (g.K.Sink.faults c.args.output.now)) (ends_of left read (g.K.Sink.held c.make_reported.new.output) (g.K.Sink.faults c.make_reported.new.output))
    (log_end (g.L.Sink.held c.args.log.now) (g.L.Sink.faults c.args.log.now)) (log_end (g.L.Sink.held c.make_reported.new.log) (g.L.Sink.faults c.make_reported.new.log))
    (c.make_reported.ensures left read)
