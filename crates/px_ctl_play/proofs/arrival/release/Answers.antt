use Rattle.std.proofs.Common.{}
use Rattle.px_outcome.specs.declared.change.Change.TheVariants.{Released}
use Rattle.px_ctl_play.proofs.Joined.{one_more, no_more}
use Rattle.px_ctl_play.proofs.arrival.release.Goals as goal

pub loop-preserved : goal.loop-preserved
loop-preserved g c = one_more c.args.waited c.loop.counter (Released c.args.index) c.loop.changes.items _ _ c.loop-test.true c.in_ok-push.ensures.items c.loop.invariant

pub returns : goal.returns
returns g c = no_more c.args.waited c.loop.counter (Released c.args.index) c.loop.changes.items _ c.loop-test.false c.loop.invariant
