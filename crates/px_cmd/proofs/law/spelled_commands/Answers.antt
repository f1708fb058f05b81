use Rattle.px_cmd.proofs.Again.{packet_again, packet_read}
use Rattle.px_cmd.proofs.Found.{packet_found}
use Rattle.px_cmd.proofs.law.spelled_commands.Goals as goal

pub returns-clause-again : goal.returns-clause-again
returns-clause-again c = packet_again

pub returns-clause-spelled : goal.returns-clause-spelled
returns-clause-spelled c = packet_read

pub returns-clause-found : goal.returns-clause-found
returns-clause-found c = packet_found
