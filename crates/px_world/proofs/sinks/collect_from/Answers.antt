use Rattle.std.proofs.Common.{[], ◌∷◌, ◌++◌, map, take, ap, ◌∙◌}
use Rattle.px_model.specs.Stream.{Stream}
use Rattle.px_model.specs.Notice.{Notice}
use Rattle.px_msg.specs.View.{notice_for}
use Rattle.px_core.specs.Step.{notice, sweep, effects_by}
use Rattle.px_world.proofs.Going.{steps-behind, effects-behind}
use Rattle.px_world.proofs.sinks.collect_from.Goals as goal

pub returns-clause-core : goal.returns-clause-core
returns-clause-core c =
    steps-behind Stream.spec c.args.core.now.state _ _ (map (λ (n : Notice Stream). notice c.args.sink (notice_for n)) (take c.args.count c.args.notices.now.notices)) (sweep ∷ [])
    c.in_ok-take_notices.ensures.core c.in_ok-effects.ensures.core

pub returns-clause-effects : goal.returns-clause-effects
returns-clause-effects c =
    let steps = map (λ (n : Notice Stream). notice c.args.sink (notice_for n)) (take c.args.count c.args.notices.now.notices) in
    effects-behind Stream.spec c.args.core.now.state _ (map (λ (n : Notice Stream). notice c.args.sink (notice_for n)) (take c.args.count c.args.notices.now.notices)) (sweep ∷ []) _ _
    c.in_ok-take_notices.ensures.core
    (c.in_ok-take_notices.ensures.effects ∙ ap (λ l. l ++ effects_by Stream.spec c.args.core.now.state steps) c.new-first.ensures)
    c.in_ok-effects.ensures.effects
