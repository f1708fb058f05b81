use Rattle.px_model.specs.Stream.{Stream}
use Rattle.px_core.specs.Step.{sweep}
use Rattle.px_world.specs.Running.{steps_given}
use Rattle.std.proofs.Common.{◌∷◌, []}
use Rattle.px_world.proofs.Going.{steps-behind, effects-behind}
use Rattle.px_world.proofs.Hearing.{consistent-given}
use Rattle.px_world.proofs.connections.hear.Goals as goal

pub returns-clause-core : goal.returns-clause-core
returns-clause-core c =
    steps-behind Stream.spec c.args.core.now.state _ _ (steps_given c.args.conn c.args.given) (sweep ∷ []) c.in_ok-first.ensures.core c.in_ok-effects.ensures.core

pub returns-clause-effects : goal.returns-clause-effects
returns-clause-effects c =
    effects-behind Stream.spec c.args.core.now.state _ (steps_given c.args.conn c.args.given) (sweep ∷ []) _ _
    c.in_ok-first.ensures.core c.in_ok-first.ensures.effects c.in_ok-effects.ensures.effects

pub returns-clause-consistent : goal.returns-clause-consistent
returns-clause-consistent c = λ mixers h. consistent-given c.args.core.now.state _ _ mixers h c.args.conn c.args.given c.requires c.in_ok-first.ensures.core c.in_ok-effects.ensures.core
