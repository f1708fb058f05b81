use Rattle.px_app.proofs.ReplayLaws.{states_are, admitted_run, run_admitted, shown_are, outputs_are}
use Rattle.px_app.proofs.law.replays_are_runs_of_the_world.Goals as goal

pub returns-clause-admitted : goal.returns-clause-admitted
returns-clause-admitted c = λ w events. (admitted_run w events, run_admitted w events)

pub returns-clause-states : goal.returns-clause-states
returns-clause-states c = states_are

pub returns-clause-shown : goal.returns-clause-shown
returns-clause-shown c = shown_are

pub returns-clause-output : goal.returns-clause-output
returns-clause-output c = outputs_are
