use Rattle.px_gen.proofs.Gathering.{is_flushed, is_cut}
use Rattle.px_gen.proofs.generator.write_piece.Goals as goal

pub returns-in-Ok-clause-bytes : goal.returns-in-Ok-clause-bytes
returns-in-Ok-clause-bytes g c = λ first given gathered.
    is_flushed given c.args.pieces.now.bytes c.flush.new.self.bytes first (g.K.Sink.held c.args.out.now) (g.K.Sink.held c.flush.new.output) gathered c.in-Ok.ensures.ok c.in-Ok.ensures.empty

pub returns-in-Err-clause-bytes : goal.returns-in-Err-clause-bytes
returns-in-Err-clause-bytes g c = λ first given gathered.
    is_cut given c.args.pieces.now.bytes first (g.K.Sink.held c.args.out.now) (g.K.Sink.held c.flush.new.output) gathered c.in-Err.ensures.err
