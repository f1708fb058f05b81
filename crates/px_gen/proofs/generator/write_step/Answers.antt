use Rattle.std.proofs.Common.{◌++◌}
use Rattle.std.specs.List.{flat_map}
use Rattle.px_session.specs.Spelling.{event}
use Rattle.px_gen.specs.Generator.{form, step_events}
use Rattle.px_gen.proofs.Gathering.{gathers, some_gathered}
use Rattle.px_gen.proofs.generator.write_step.Goals as goal

pub returns-in-Err-clause-bytes : goal.returns-in-Err-clause-bytes
returns-in-Err-clause-bytes g c = λ first given gathered. some_gathered given (flat_map (event form) (step_events c.args.numbers.now.state)) c.args.pieces.now.bytes c.gather_step.new.pieces.bytes first (g.K.Sink.held c.args.out.now) gathered c.in-Err.ensures.bytes

pub returns-clause-bytes : goal.returns-clause-bytes
returns-clause-bytes g c = λ first given gathered.
    c.write_piece.ensures.bytes first (given ++ flat_map (event form) (step_events c.args.numbers.now.state))
    (gathers given (flat_map (event form) (step_events c.args.numbers.now.state)) c.args.pieces.now.bytes c.gather_step.new.pieces.bytes first (g.K.Sink.held c.args.out.now) gathered c.in_default.ensures.bytes)
