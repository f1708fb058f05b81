use Rattle.std.proofs.Common.{ap, sym, subst, ◌∙◌}
use Rattle.px_world.specs.Output.{world_by}
use Rattle.px_world.specs.Running.{StandsFor as WorldStands}
use Rattle.px_sieve.specs.Scene.{inner, shown_by}
use Rattle.px_cache_world.specs.Course.{with_play}
use Rattle.px_cache_world.specs.Sampler.{filling}
use Rattle.px_cache_world.proofs.plays.follow.Goals as goal

pub returns-in_ok-begin-in-Made-clause-effects : goal.returns-in_ok-begin-in-Made-clause-effects
returns-in_ok-begin-in-Made-clause-effects c = λ w stands.
    c.in_ok-effects-in-Made.ensures.effects w c.in-Made.input stands ∙ ap (λ m. shown_by w (filling c.args.p.now m)) (sym c.in-Made.is)

pub returns-in_ok-begin-in-Made-clause-after : goal.returns-in_ok-begin-in-Made-clause-after
returns-in_ok-begin-in-Made-clause-after c = λ w stands.
    subst (λ m. WorldStands c.fill.new.world (world_by w (inner (filling c.args.p.now m)))) (sym c.in-Made.is) (c.in_ok-effects-in-Made.ensures.after w c.in-Made.input stands)

pub returns-in_ok-begin-in-Made-clause-course : goal.returns-in_ok-begin-in-Made-clause-course
returns-in_ok-begin-in-Made-clause-course c = c.in_ok-begin-in-Made.ensures c.in-Made.input ∙ ap (λ m. with_play m c.args.course.now) (sym c.in-Made.is)
