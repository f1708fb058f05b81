use Rattle.px_state.specs.Tables.{state_of}
use Rattle.px_core.proofs.frames.control.Goals as goal
use Rattle.std.proofs.Common.{sym, subst}
use Rattle.px_subscribe.specs.Moments.{AreShown}
use Rattle.px_state.specs.State.{State}
use Rattle.px_core.specs.Step.{answered}

pub finish-requires-clause-after : goal.finish-requires-clause-after
finish-requires-clause-after g c =
    subst (λ outcome. AreShown (State.inputs (answered (state_of c.args.tables.now) outcome))) (sym c.in_ok-outcome.ensures) c.requires.after
