use Rattle.std.proofs.Common.{rules}
use Rattle.px_sample.proofs.CompandedLemmas.{mu_law_shifted-is, mu_law_shifted-small}
use Rattle.px_sample.proofs.g711.mu_law_size.Goals as goal

pub returns-clause-value : goal.returns-clause-value
returns-clause-value c = mu_law_shifted-is c.args.plain (search rules)

pub returns-clause-small : goal.returns-clause-small
returns-clause-small c = mu_law_shifted-small c.args.plain (search rules)
