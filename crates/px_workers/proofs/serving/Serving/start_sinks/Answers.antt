use Rattle.std.proofs.Common.{rules, refl, ◌∙◌}
use Rattle.px_workers.specs.Hosted.{IsCalm}
use Rattle.px_workers.proofs.Accepting.{starts_refl, starts_then}
use Rattle.px_workers.proofs.serving.Serving.start_sinks.Goals as goal

pub loop-self-init : goal.loop-self-init
loop-self-init g c = record { starts = starts_refl _; calm = refl; dialled = refl }

pub loop-self-preserved : goal.loop-self-preserved
loop-self-preserved g c =
    let calm : IsCalm (g.H.Host.now c.loop-self.host) (g.H.Host.now c.start_one.new.host) = search rules in
    record {
      starts = starts_then _ _ _ c.loop-self.invariant.starts c.start_one.ensures.starts;
      calm = calm ∙ c.loop-self.invariant.calm;
      dialled = c.start_one.ensures.dialled ∙ c.loop-self.invariant.dialled;
    }

pub returns-clause-starts : goal.returns-clause-starts
returns-clause-starts g c = c.loop-self.invariant.starts

pub returns-clause-calm : goal.returns-clause-calm
returns-clause-calm g c = c.loop-self.invariant.calm

pub returns-in_err-start_one-clause-starts : goal.returns-in_err-start_one-clause-starts
returns-in_err-start_one-clause-starts g c = starts_then _ _ _ c.loop-self.invariant.starts c.start_one.ensures.starts

pub returns-clause-dialled : goal.returns-clause-dialled
returns-clause-dialled g c = c.loop-self.invariant.dialled

pub returns-in_err-start_one-clause-dialled : goal.returns-in_err-start_one-clause-dialled
returns-in_err-start_one-clause-dialled g c = c.start_one.ensures.dialled ∙ c.loop-self.invariant.dialled
