use Rattle.px_frame.specs.declared.frame.Body.TheVariants.{Control}
use Rattle.px_state.proofs.effect.Effect.packet.Goals as goal

pub returns-in-Ok-clause-sendable : goal.returns-in-Ok-clause-sendable
returns-in-Ok-clause-sendable c = record {
  body = Control c.args.bytes.now;
  is = c.in-Ok.ensures.spelling;
  possible = (c.requires.some, c.requires.few);
  numbers = tt;
}
