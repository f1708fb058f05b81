use Rattle.px_monitor.specs.Monitor.{new_monitor}
use Rattle.px_monitor.proofs.Waiting.{run-idle, new-alone}
use Rattle.px_monitor.proofs.law.pieces_are_of_new_bytes.Goals as goal

pub returns-clause-idle : goal.returns-clause-idle
returns-clause-idle c = λ header events. run-idle (new_monitor header) events tt

pub returns-clause-pieces : goal.returns-clause-pieces
returns-clause-pieces c = new-alone
