use Rattle.px_model.specs.Stream.{Stream}
use Rattle.px_core.specs.Step.{connect}
use Rattle.px_world.proofs.Openings.{refused-absent}
use Rattle.px_world.proofs.Hearing.{one-swept, one-swept-caused, consistent-one}
use Rattle.px_world.proofs.connections.admit.Goals as goal

pub returns-clause-done : goal.returns-clause-done
returns-clause-done c = λ w opened. record {
  admitted = (refused-absent c.args.doors.now.entries w.links c.args.conn opened c.requires).0;
  core = one-swept Stream.spec c.args.core.now.state _ (connect c.args.conn) _ c.in_ok-first.ensures.after c.in_ok-effects.ensures.core;
  opened = c.in_ok-add.ensures.opened w.links opened;
  caused = one-swept-caused Stream.spec c.args.core.now.state _ (connect c.args.conn) _ _ c.in_ok-first.ensures.after c.in_ok-first.ensures.effects c.in_ok-effects.ensures.effects;
}

pub returns-clause-consistent : goal.returns-clause-consistent
returns-clause-consistent c = λ mixers h. consistent-one c.args.core.now.state _ _ mixers h (connect c.args.conn) tt tt (λ sink. tt) c.in_ok-first.ensures.after c.in_ok-effects.ensures.core
