use Rattle.std.proofs.Common.{◌∙◌}
use Rattle.px_model.specs.Stream.{Stream}
use Rattle.px_core.specs.Step.{cut}
use Rattle.px_world.proofs.Openings.{refused-there}
use Rattle.px_world.proofs.Hearing.{one-swept, one-swept-caused, consistent-one}
use Rattle.px_world.proofs.connections.cut_off.Goals as goal

pub returns-clause-done : goal.returns-clause-done
returns-clause-done c = λ doors w there opened. record {
  admitted = (refused-there doors w.links c.args.conn opened there).1;
  core = one-swept Stream.spec c.args.core.now.state _ (cut c.args.conn) _ c.cut-effect.ensures.after c.in_ok-effects.ensures.core;
  opened = opened;
  caused = one-swept-caused Stream.spec c.args.core.now.state _ (cut c.args.conn) _ _ c.cut-effect.ensures.after
      (c.in_ok-first.ensures ∙ c.cut-effect.ensures.effect) c.in_ok-effects.ensures.effects;
}

pub returns-clause-consistent : goal.returns-clause-consistent
returns-clause-consistent c = λ mixers h. consistent-one c.args.core.now.state _ _ mixers h (cut c.args.conn) tt tt (λ sink. tt) c.cut-effect.ensures.after c.in_ok-effects.ensures.core
