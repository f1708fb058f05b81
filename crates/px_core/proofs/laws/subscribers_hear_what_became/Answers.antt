use Rattle.std.proofs.Common.{[], ◌∷◌}
use Rattle.px_subscribe.proofs.WhatBecame.{say_what_became}
use Rattle.px_core.specs.Heard.{infos_of, given_by}
use Rattle.px_core.specs.Step.{stepped}
use Rattle.px_core.proofs.StepLaws as steps
use Rattle.px_core.proofs.HearingLaws as hearing
use Rattle.px_core.proofs.HeardLaws.{sent_by_mask, all_effects}
use Rattle.px_core.proofs.OwnLaws.{say_of_clients}
use Rattle.px_core.proofs.laws.subscribers_hear_what_became.Goals as goal

pub returns-clause-effects : goal.returns-clause-effects
returns-clause-effects g c = all_effects

pub returns-clause-sent : goal.returns-clause-sent
returns-clause-sent g c = λ spec_of state s conn is h.
    sent_by_mask conn state (stepped spec_of state s) (steps.step_keeps spec_of state s is h).steady.distinct (hearing.steps_sinks spec_of state (s ∷ []))

pub returns-clause-each : goal.returns-clause-each
returns-clause-each g c = λ before after. say_what_became (given_by after) (infos_of before) (infos_of after)

pub returns-clause-clients : goal.returns-clause-clients
returns-clause-clients g c = say_of_clients
