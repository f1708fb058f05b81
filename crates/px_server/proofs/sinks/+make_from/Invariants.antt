use Rattle.std.proofs.Common.{length}
use Rattle.px_server.proofs.sinks.+make_from.Given as goal

-- how many are left
abbrev pub decreases-make_from : goal.decreases-make_from
decreases-make_from g a = length a.sinks.now
