use Rattle.px_app.specs.Ends.{ends_of, log_end}
use Rattle.px_app.proofs.RampLaws.{ramps}
use Rattle.px_app.proofs.ramping.replay_ramp.Goals as goal

pub returns : goal.returns
returns g c =
    ramps c.args.ramp c.report.result
    (ends_of (g.S.Source.left c.args.input.now) (g.S.Source.faults c.args.input.now) (g.K.Sink.held c.args.output.now) (g.K.Sink.faults c.args.output.now))
    (ends_of (g.S.Source.left c.play_ramps-ended.new.input) (g.S.Source.faults c.play_ramps-ended.new.input) (g.K.Sink.held c.play_ramps-ended.new.output) (g.K.Sink.faults c.play_ramps-ended.new.output))
    (log_end (g.L.Sink.held c.args.log.now) (g.L.Sink.faults c.args.log.now)) (log_end (g.L.Sink.held c.report.new.log) (g.L.Sink.faults c.report.new.log))
    (record { ended = c.play_ramps-ended.result; played = c.play_ramps-ended.ensures.played; counted = c.play_ramps-ended.ensures.counted; reported = c.report.ensures })
