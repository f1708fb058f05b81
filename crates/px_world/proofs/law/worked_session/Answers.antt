use Rattle.px_world.proofs.Computed.{small-admitted, small-given, moving-admitted, small-tracked, stopping-admitted, stopping-given}
use Rattle.px_world.proofs.law.worked_session.Goals as goal

pub returns-clause-admitted : goal.returns-clause-admitted
returns-clause-admitted c = small-admitted

pub returns-clause-output : goal.returns-clause-output
returns-clause-output c = small-given

pub returns-clause-moves : goal.returns-clause-moves
returns-clause-moves c = moving-admitted

pub returns-clause-track : goal.returns-clause-track
returns-clause-track c = small-tracked

pub returns-clause-stop_admitted : goal.returns-clause-stop_admitted
returns-clause-stop_admitted c = stopping-admitted

pub returns-clause-stop_output : goal.returns-clause-stop_output
returns-clause-stop_output c = stopping-given
