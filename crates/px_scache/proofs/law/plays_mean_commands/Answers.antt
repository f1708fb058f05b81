use Rattle.px_scache.proofs.Meant.{create_means, drain_means, delete_means}
use Rattle.px_scache.proofs.law.plays_mean_commands.Goals as goal

pub returns-clause-create : goal.returns-clause-create
returns-clause-create c = create_means

pub returns-clause-drain : goal.returns-clause-drain
returns-clause-drain c = drain_means

pub returns-clause-delete : goal.returns-clause-delete
returns-clause-delete c = delete_means
