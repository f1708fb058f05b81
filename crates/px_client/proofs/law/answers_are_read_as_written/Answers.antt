use Rattle.px_client.proofs.Written.{version_read, client_read, plain_read, list_read, refusal_read, message_read}
use Rattle.px_client.proofs.Layouts.{layout_found}
use Rattle.px_client.proofs.law.answers_are_read_as_written.Goals as goal

pub returns-clause-version : goal.returns-clause-version
returns-clause-version c = version_read

pub returns-clause-client : goal.returns-clause-client
returns-clause-client c = client_read

pub returns-clause-nothing : goal.returns-clause-nothing
returns-clause-nothing c = plain_read

pub returns-clause-list : goal.returns-clause-list
returns-clause-list c = list_read

pub returns-clause-refusal : goal.returns-clause-refusal
returns-clause-refusal c = refusal_read

pub returns-clause-message : goal.returns-clause-message
returns-clause-message c = message_read

pub returns-clause-layout : goal.returns-clause-layout
returns-clause-layout c = layout_found
