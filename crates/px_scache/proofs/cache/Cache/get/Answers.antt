use Rattle.std.proofs.Common.{sym, subst}
use Rattle.px_scache.specs.Cache.{IsCache}
use Rattle.px_scache.proofs.Named.{sample_is}
use Rattle.px_scache.proofs.cache.Cache.get.Goals as goal

pub returns-in-Some-found-clause-lawful : goal.returns-in-Some-found-clause-lawful
returns-in-Some-found-clause-lawful c =
    sample_is c.as_slice-in-Some.result.now c.as_slice.result.now c.in-Some-found.sample.now (subst IsCache (sym c.as_slice.ensures.value) c.self.invariant) c.in-Some-found.ensures
