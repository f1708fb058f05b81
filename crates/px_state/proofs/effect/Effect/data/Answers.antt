use Rattle.std.proofs.Common.{ℤ, ◌∙◌, ap, w64}
use Rattle.std.proofs.lemmas.Int.{to_z-of_z}
use Rattle.px_frame.specs.declared.frame.Body.TheVariants.{Write}
use Rattle.px_frame.specs.Spelling.{spelling_of}
use Rattle.px_state.proofs.effect.Effect.data.Goals as goal

pub returns-in-Ok-clause-sendable : goal.returns-in-Ok-clause-sendable
returns-in-Ok-clause-sendable c = record {
  body = Write c.args.stream c.args.offset c.args.seek c.args.bytes.now;
  is = c.in-Ok.ensures.spelling ∙ ap (λ (o : ℤ). spelling_of (Write c.args.stream o c.args.seek c.args.bytes.now)) (to_z-of_z w64 c.args.offset c.ranges.offset);
  possible = (c.requires.channel, c.requires.mode, c.requires.some, c.requires.few);
  numbers = (c.ranges.stream.fits, c.ranges.offset);
}
