use Rattle.std.proofs.Common.{rules, ◌≡◌, ℕ, suc, Some, None, List, length, refl, ap, sym, subst, ◌∙◌, arith}
use Rattle.px_cache_world.specs.Course.{with_due, most_due, TakesDue}
use Rattle.px_cache_world.specs.Sampler.{StandsForSampler}
use Rattle.px_cache_world.proofs.Settling.{Settles, settles-first, settles-next, settles-shown, settles-after, deleting, seen-fewer}
use Rattle.px_cache_world.proofs.parts.settle.Goals as goal

pub loop-stream-init : goal.loop-stream-init
loop-stream-init c = (λ s stands. subst (λ effects. Settles effects c.args.parts.now s) (sym c.new-effects.ensures) (settles-first c.args.parts.now s stands), refl)

pub loop-stream-preserved : goal.loop-stream-preserved
loop-stream-preserved c =
    let was = c.loop-stream.parts in
    let stream = c.in-Some.stream in
    let taken : TakesDue (Some stream) was.course c.next_due.new.self = subst (λ r. TakesDue r was.course c.next_due.new.self) c.in-Some.is c.next_due.ensures in
    let due = taken.0 in (
      (λ s stands.
          let g = c.loop-stream.invariant.0 s stands in
          let first : StandsForSampler (record { world = c.delete.new.world; sieve = was.sieve; skips = was.skips; store = was.store; course = c.next_due.new.self }) (deleting g.now stream due) =
          record {
            world = c.in_ok-more.ensures.after g.now.world g.stands.world;
            sieve = g.stands.sieve;
            skips = g.stands.skips;
            store = g.stands.store;
            course = taken.2 ∙ ap (with_due due) g.stands.course;
          } in
          settles-next c.loop-stream.effects c.append.new.self c.in_ok-more.more was c.see.new.parts s stream due g taken.1
          (c.in_ok-more.ensures.effects g.now.world g.stands.world)
          (c.in_ok-see.ensures.after (deleting g.now stream due) first)
          c.in_ok-append.ensures.ok),
      c.in_ok-see.ensures.left ∙ c.loop-stream.invariant.1,
    )

pub loop-stream-smaller : goal.loop-stream-smaller
loop-stream-smaller c =
    let was = c.loop-stream.parts in
    let stream = c.in-Some.stream in
    let taken : TakesDue (Some stream) was.course c.next_due.new.self = subst (λ r. TakesDue r was.course c.next_due.new.self) c.in-Some.is c.next_due.ensures in
    let size : length was.course.due ≡ suc (length taken.0) = ap (λ (l : List ℕ). length l) taken.1 in
    let seen = ap most_due c.in_ok-see.ensures.due in
    let less = ap most_due taken.2 in
    omega (arith, size, seen, less, seen-fewer c.in_ok-more.more c.next_due.new.self)

pub returns-clause-effects : goal.returns-clause-effects
returns-clause-effects c = λ s stands.
    let was = c.loop-stream.parts in
    let nothing : c.next_due.result ≡ None = search rules in
    let taken : TakesDue None was.course c.next_due.new.self = subst (λ r. TakesDue r was.course c.next_due.new.self) nothing c.next_due.ensures in
    settles-shown c.loop-stream.effects was s (c.loop-stream.invariant.0 s stands) taken.0

pub returns-clause-after : goal.returns-clause-after
returns-clause-after c = λ s stands.
    let was = c.loop-stream.parts in
    let g = c.loop-stream.invariant.0 s stands in
    let nothing : c.next_due.result ≡ None = search rules in
    let taken : TakesDue None was.course c.next_due.new.self = subst (λ r. TakesDue r was.course c.next_due.new.self) nothing c.next_due.ensures in
    subst (StandsForSampler (record { world = was.world; sieve = was.sieve; skips = was.skips; store = was.store; course = c.next_due.new.self }))
    (settles-after c.loop-stream.effects was s g taken.0)
    (record { world = g.stands.world; sieve = g.stands.sieve; skips = g.stands.skips; store = g.stands.store; course = taken.1 ∙ g.stands.course })
