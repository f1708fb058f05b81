use Rattle.std.proofs.Common.{rules, ◌≡◌, Some, None, sym, subst, ◌∙◌}
use Rattle.px_world.specs.Running.{StandsFor as WorldStands}
use Rattle.px_sieve.specs.Sieve.{next}
use Rattle.px_cache_world.specs.declared.parts.Parts.{Parts}
use Rattle.px_cache_world.specs.Sampler.{hearing, handed_out, StandsForSampler}
use Rattle.px_cache_world.proofs.Goes.{GoesOn, goes-first, goes-next, goes-shown, goes-after, not-handed}
use Rattle.px_cache_world.proofs.parts.hear.Goals as goal

pub loop-effects-init : goal.loop-effects-init
loop-effects-init c = λ s stands.
    let was = c.args.parts.now in
    let start = hearing s c.args.conn c.args.bytes.now in
    let first : Parts = record { world = c.reclaim_spares.new.self; sieve = c.pass.new.self; skips = was.skips; store = was.store; course = was.course } in
    subst (λ effects. GoesOn c.args.conn effects first start) (sym c.new-effects.ensures)
    (goes-first c.args.conn first start
    (record { world = subst (λ w. WorldStands w s.world) (sym (c.reclaim_spares.ensures ∙ c.lend_spares-spares.ensures)) stands.world; sieve = c.in_ok-pass.ensures s.sieve stands.sieve; skips = stands.skips; store = stands.store; course = stands.course }))

pub loop-effects-preserved : goal.loop-effects-preserved
loop-effects-preserved c = λ s stands.
    let conn = c.args.conn in
    let piece = c.in-Some.piece in
    let parts = c.loop-effects.parts in
    let g = c.loop-effects.invariant s stands in
    let out = handed_out g.now conn in
    let given : Some piece ≡ next g.now.sieve conn = sym c.in-Some.is ∙ c.in_ok-piece.ensures.piece g.now.sieve g.stands.sieve in
    let handed : StandsForSampler (record { world = parts.world; sieve = c.next.new.self; skips = parts.skips; store = parts.store; course = parts.course }) out =
    record { world = g.stands.world; sieve = c.in_ok-piece.ensures.after g.now.sieve g.stands.sieve; skips = g.stands.skips; store = g.stands.store; course = g.stands.course } in
    goes-next conn c.loop-effects.effects c.append.new.self c.in_ok-more.more piece parts c.step.new.parts (hearing s conn c.args.bytes.now) g given
    (c.in_ok-more.ensures.effects out handed)
    (c.in_ok-more.ensures.after out handed)
    c.in_ok-append.ensures.ok

pub returns-clause-effects : goal.returns-clause-effects
returns-clause-effects c = λ s stands.
    let conn = c.args.conn in
    let parts = c.loop-effects.parts in
    let g = c.loop-effects.invariant s stands in
    let nothing : c.in_ok-piece.field-0 ≡ None = search rules in
    let none : None ≡ next g.now.sieve conn = sym nothing ∙ c.in_ok-piece.ensures.piece g.now.sieve g.stands.sieve in
    let later : Parts = record { world = parts.world; sieve = c.next.new.self; skips = parts.skips; store = parts.store; course = parts.course } in
    goes-shown conn c.loop-effects.effects parts later (hearing s conn c.args.bytes.now) g none

pub returns-clause-after : goal.returns-clause-after
returns-clause-after c = λ s stands.
    let conn = c.args.conn in
    let parts = c.loop-effects.parts in
    let g = c.loop-effects.invariant s stands in
    let nothing : c.in_ok-piece.field-0 ≡ None = search rules in
    let none : None ≡ next g.now.sieve conn = sym nothing ∙ c.in_ok-piece.ensures.piece g.now.sieve g.stands.sieve in
    let later : Parts = record { world = parts.world; sieve = c.next.new.self; skips = parts.skips; store = parts.store; course = parts.course } in
    subst (StandsForSampler later)
    (not-handed g.now conn none ∙ goes-after conn c.loop-effects.effects parts later (hearing s conn c.args.bytes.now) g none)
    (record { world = g.stands.world; sieve = c.in_ok-piece.ensures.after g.now.sieve g.stands.sieve; skips = g.stands.skips; store = g.stands.store; course = g.stands.course })
