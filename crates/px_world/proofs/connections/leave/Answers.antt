use Rattle.std.proofs.Common.{sym, ◌∙◌}
use Rattle.px_model.specs.Stream.{Stream}
use Rattle.px_core.specs.Step.{close}
use Rattle.px_world.proofs.Openings.{refused-there}
use Rattle.px_world.proofs.Hearing.{one-swept, one-swept-caused, close-silent, consistent-one}
use Rattle.px_world.proofs.connections.leave.Goals as goal

pub returns-clause-done : goal.returns-clause-done
returns-clause-done c = λ w opened. record {
  admitted = (refused-there c.args.doors.now.entries w.links c.args.conn opened c.requires).1;
  core = one-swept Stream.spec c.args.core.now.state _ (close c.args.conn) _ c.close.ensures c.in_ok-effects.ensures.core;
  opened = c.drop_of.ensures w.links opened;
  caused = one-swept-caused Stream.spec c.args.core.now.state _ (close c.args.conn) _ _ c.close.ensures
      (c.new-none.ensures ∙ sym (close-silent Stream.spec c.args.core.now.state c.args.conn)) c.in_ok-effects.ensures.effects;
}

pub returns-clause-consistent : goal.returns-clause-consistent
returns-clause-consistent c = λ mixers h. consistent-one c.args.core.now.state _ _ mixers h (close c.args.conn) tt tt (λ sink. tt) c.close.ensures c.in_ok-effects.ensures.core
