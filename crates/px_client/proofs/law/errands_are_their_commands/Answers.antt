use Rattle.px_client.proofs.Spoken.{sent_read, auth_means, name_means, errand_means, volume_bytes}
use Rattle.px_client.proofs.law.errands_are_their_commands.Goals as goal

pub returns-clause-frames : goal.returns-clause-frames
returns-clause-frames c = sent_read

pub returns-clause-auth : goal.returns-clause-auth
returns-clause-auth c = auth_means

pub returns-clause-name : goal.returns-clause-name
returns-clause-name c = name_means

pub returns-clause-errand : goal.returns-clause-errand
returns-clause-errand c = errand_means

pub returns-clause-volume : goal.returns-clause-volume
returns-clause-volume c = volume_bytes
