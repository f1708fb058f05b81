use Rattle.std.proofs.Common.{◌≡◌, Some, refl}
use Rattle.px_world.specs.Admission.{refusal_of}
use Rattle.px_cache_world.specs.Sampler.{running_on, alone, StandsForSampler}
use Rattle.px_cache_world.proofs.Events.{unless-refused, lone-shown, lone-stands}
use Rattle.px_cache_world.proofs.world.lone.Goals as goal

pub returns-in_ok-effects-in-Ok-clause-done : goal.returns-in_ok-effects-in-Ok-clause-done
returns-in_ok-effects-in-Ok-clause-done c = λ s stands.
    let was = c.args.parts.now in
    let e = c.args.e in
    let done = c.in-Ok.ensures.done s.world stands.world in
    let here : StandsForSampler (record { world = c.event.new.self; sieve = was.sieve; skips = was.skips; store = was.store; course = was.course }) (running_on s (alone e)) =
    record { world = c.in-Ok.ensures.after s.world stands.world; sieve = stands.sieve; skips = stands.skips; store = stands.store; course = stands.course } in
    record {
      admitted = done.admitted;
      effects = lone-shown s e c.in-Ok.outcome.effects done.effects c.in_ok-effects-in-Ok.effects (c.in_ok-effects-in-Ok.ensures.effects (running_on s (alone e)) here);
      frames = done.frames;
      played = done.played;
      stopped = done.stopped;
      stands = lone-stands s e c.in-Ok.outcome.effects done.effects c.followed.new.parts (c.in_ok-effects-in-Ok.ensures.after (running_on s (alone e)) here);
    }

pub returns-in-Err-clause-done : goal.returns-in-Err-clause-done
returns-in-Err-clause-done c = λ s stands.
    unless-refused c.in-Err.fault (refusal_of s.world c.args.e ≡ Some c.in-Err.fault) (λ ne. c.in-Err.ensures.refused s.world c.in-Err.fault stands.world refl ne)
