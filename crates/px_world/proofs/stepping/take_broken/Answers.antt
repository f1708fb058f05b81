use Rattle.std.proofs.Common.{[], ◌∷◌, map}
use Rattle.px_frame.specs.declared.frame.Frame.{Frame}
use Rattle.px_model.specs.Stream.{Stream}
use Rattle.px_core.specs.Step.{frame, broken}
use Rattle.px_world.proofs.Going.{steps-behind, pushed-caused}
use Rattle.px_world.proofs.stepping.take_broken.Goals as goal

pub returns-clause-core : goal.returns-clause-core
returns-clause-core c =
    steps-behind Stream.spec c.args.core.now.state _ _ (map (λ (f : Frame). frame c.args.conn f) c.args.frames.items) (broken c.args.conn c.args.fault c.args.at ∷ [])
    c.in_ok-take_frames.ensures.core c.in_ok-more.ensures.after

pub returns-clause-effects : goal.returns-clause-effects
returns-clause-effects c =
    pushed-caused Stream.spec c.args.core.now.state _ (map (λ (f : Frame). frame c.args.conn f) c.args.frames.items) (broken c.args.conn c.args.fault c.args.at) c.args.effects.now _ _ _
    c.in_ok-take_frames.ensures.core c.in_ok-take_frames.ensures.effects c.in_ok-more.ensures.effects c.in_ok-append.ensures.ok
