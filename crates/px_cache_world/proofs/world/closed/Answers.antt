use Rattle.std.proofs.Common.{rules, ◌≡◌, false, ap, ◌∙◌}
use Rattle.px_session.specs.declared.event.Event.TheVariants.{Close}
use Rattle.px_scache.specs.Answers.{forgotten as store_forgotten}
use Rattle.px_cache_world.specs.Own.{is_hidden}
use Rattle.px_cache_world.specs.Skips.{other_skips}
use Rattle.px_cache_world.specs.Sampler.{after_lone}
use Rattle.px_cache_world.proofs.Events.{close-done}
use Rattle.px_cache_world.proofs.world.closed.Goals as goal

pub returns-clause-done : goal.returns-clause-done
returns-clause-done c = λ s stands.
    let conn = c.args.conn in
    let l = c.in_ok-outcome.ensures.done s stands in
    let other : false ≡ is_hidden conn = search rules in
    close-done s c.lone.new.parts c.in_ok-outcome.outcome conn other
    (record { world = c.lone.new.parts.world; sieve = c.forget.new.self; skips = c.drop_skip.new.skips; store = c.forget-2.new.self; course = c.lone.new.parts.course }) l
    (record {
      world = l.stands.world;
      sieve = c.forget.ensures (after_lone s (Close conn)).sieve l.stands.sieve;
      skips = c.drop_skip.ensures ∙ ap (other_skips conn) l.stands.skips;
      store = c.forget-2.ensures ∙ ap (store_forgotten conn) l.stands.store;
      course = l.stands.course;
    })
