use Rattle.px_app.proofs.FlushLaws.{ends_by}
use Rattle.px_app.proofs.playing.Playing.finish.Goals as goal

pub returns-clause-played : goal.returns-clause-played
returns-clause-played g c = λ asked first left read written played grew.
    rw (c.ending_with.ensures, c.is_ok-is_written.ensures.value) (ends_by g.T.Stage.mode asked first left (g.K.Sink.held c.args.output.now) (g.K.Sink.held c.flush.new.output) read written c.args.self.now.pieces.bytes
    c.args.ended c.flush.result c.flush.ensures.ok c.flush.ensures.err grew played)
