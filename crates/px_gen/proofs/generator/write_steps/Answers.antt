use Rattle.std.specs.List.{flat_map}
use Rattle.px_session.specs.Spelling.{event}
use Rattle.px_gen.specs.Generator.{form, steps}
use Rattle.px_gen.proofs.Loops.{behind_more}
use Rattle.px_gen.proofs.Gathering.{steps_stopped, steps_gathered}
use Rattle.px_gen.proofs.generator.write_steps.Goals as goal
use Rattle.std.proofs.Common.{◌++◌, sym, ap, ◌∙◌}
use Rattle.px_gen.specs.Generator.{step_state}

pub returns-in-Err-clause-bytes : goal.returns-in-Err-clause-bytes
returns-in-Err-clause-bytes g c = λ first given gathered.
    steps_stopped c.in-Err.stop given c.loop.counter c.args.count c.args.numbers.now.state c.loop.numbers.state first (g.K.Sink.held c.write_step.new.out) c.write_step.new.pieces.bytes c.loop-test.true c.loop.invariant.state
    (c.in-Err.ensures.bytes first (given ++ flat_map (event form) (steps c.loop.counter c.args.numbers.now.state)) (c.loop.invariant.gathered first given gathered))

pub loop-preserved : goal.loop-preserved
loop-preserved g c = record {
  gathered = λ first given gathered.
      steps_gathered given c.loop.counter c.args.numbers.now.state c.loop.numbers.state first (g.K.Sink.held c.write_step.new.out) c.write_step.new.pieces.bytes c.loop.invariant.state
      (c.in_default.ensures.bytes first (given ++ flat_map (event form) (steps c.loop.counter c.args.numbers.now.state)) (c.loop.invariant.gathered first given gathered));
  sound = c.in_default.ensures.count ∙ c.loop.invariant.sound;
  state = c.in_default.ensures.state ∙ ap step_state c.loop.invariant.state ∙ sym (behind_more c.loop.counter c.args.numbers.now.state);
}
