-- The state after an outcome, and the effects of the outcome.
use Rattle.std.specs.Prelude.{List, ◌++◌, Option}
use Rattle.px_types.specs.declared.ids.ConnId.{ConnId}
use Rattle.px_state.specs.declared.effect.Effect.{Effect}
use Rattle.px_state.specs.State.{State}
use Rattle.px_state.specs.Change.{committed}
use Rattle.px_state.specs.Outcome.{CoreOutcome, outcome_effects}
use Rattle.px_state.specs.Events.{step_events}

-- the state after an outcome
abbrev pub answered : {P : Type 0} → State P → CoreOutcome P → State P
answered state outcome = committed state outcome.changes

-- the effects of an outcome, and then the subscription events that its changes cause
abbrev pub answer_effects : {P : Type 0} → Option ConnId → State P → CoreOutcome P → List Effect
answer_effects asker state outcome = outcome_effects asker outcome ++ step_events state (answered state outcome)
