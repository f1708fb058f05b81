use Rattle.std.proofs.Common.{subst}
use Rattle.px_subscribe.specs.Moments.{AreShown}
use Rattle.px_state.specs.State.{State}
use Rattle.px_state.specs.Tables.{state_of}
use Rattle.px_core.specs.Notice.{notice_answer}
use Rattle.px_core.specs.Step.{notice, answered}
use Rattle.px_core.proofs.ShownLaws.{step_shown}
use Rattle.px_core.proofs.notice.take.Goals as goal

pub detach-requires-clause-after : goal.detach-requires-clause-after
detach-requires-clause-after g c =
    subst (λ n. AreShown (State.inputs (answered (state_of c.args.tables.now) (notice_answer g.P.Parcel.spec_of (state_of c.args.tables.now) c.args.sink n)))) c.in-Detached.is
    (step_shown g.P.Parcel.spec_of (state_of c.args.tables.now) (notice c.args.sink c.args.notice) tt c.requires)
