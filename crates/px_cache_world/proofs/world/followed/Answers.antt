use Rattle.std.proofs.Common.{◌++◌, ap, ◌∙◌}
use Rattle.px_cache_world.specs.Sampler.{seeing, open_effects}
use Rattle.px_cache_world.proofs.world.followed.Goals as goal

pub returns-clause-effects : goal.returns-clause-effects
returns-clause-effects c = λ s stands.
    let effects = c.args.effects in
    c.in_ok-shown.ensures
    ∙ ap open_effects (c.in_ok-append.ensures.ok ∙ ap (λ l. effects ++ l) (c.in_ok-more.ensures.effects (seeing effects s) (c.in_ok-see.ensures.after s stands)))

pub returns-clause-after : goal.returns-clause-after
returns-clause-after c = λ s stands. c.in_ok-more.ensures.after (seeing c.args.effects s) (c.in_ok-see.ensures.after s stands)
