use Rattle.std.proofs.Common.{rules, refl, subst, IfErr, ◌∙◌}
use Rattle.px_workers.specs.Hosted.{IsCalm, IsCauseOf}
use Rattle.px_workers.proofs.Accepting.{takes_refl, takes_then, room_then}
use Rattle.px_workers.proofs.Later.{cause_later}
use Rattle.px_workers.proofs.serving.Serving.accept_all.Goals as goal

pub loop-stop-init : goal.loop-stop-init
loop-stop-init g c = record { takes = takes_refl _ c.requires.room; calm = refl; dialled = refl }

pub accept_one-requires-clause-room : goal.accept_one-requires-clause-room
accept_one-requires-clause-room g c κs within = room_then _ _ c.requires.room c.loop-stop.invariant.takes

pub loop-stop-preserved : goal.loop-stop-preserved
loop-stop-preserved g c =
    let calm : IsCalm (g.H.Host.now c.loop-stop.host) (g.H.Host.now c.accept_one.new.host) = search rules in
    record {
      takes = takes_then _ _ _ c.loop-stop.invariant.takes c.accept_one.ensures.takes;
      calm = calm ∙ c.loop-stop.invariant.calm;
      dialled = c.accept_one.ensures.dialled ∙ c.loop-stop.invariant.dialled;
    }

pub returns-in-Err-clause-takes : goal.returns-in-Err-clause-takes
returns-in-Err-clause-takes g c = takes_then _ _ _ c.loop-stop.invariant.takes c.accept_one.ensures.takes

pub returns-in-Err-clause-dialled : goal.returns-in-Err-clause-dialled
returns-in-Err-clause-dialled g c = c.accept_one.ensures.dialled ∙ c.loop-stop.invariant.dialled

pub returns-in-Err-clause-cause : goal.returns-in-Err-clause-cause
returns-in-Err-clause-cause g c =
    let cause = subst (λ (r : _). IfErr r (λ stop. IsCauseOf stop (g.H.Host.now c.loop-stop.host) (g.H.Host.now c.accept_one.new.host))) c.in-Err.is c.accept_one.ensures.cause in
    cause_later _ _ _ _ c.loop-stop.invariant.takes.later c.loop-stop.invariant.calm cause
