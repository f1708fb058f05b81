use Rattle.std.proofs.Common.{sym, subst}
use Rattle.std.specs.List.{AllByRecursion}
use Rattle.px_scache.specs.Uploads.{IsUpload}
use Rattle.px_scache.proofs.Named.{upload_is}
use Rattle.px_scache.proofs.uploads.Uploads.finished.Goals as goal

pub sample_of-requires-clause-lawful : goal.sample_of-requires-clause-lawful
sample_of-requires-clause-lawful c =
    upload_is c.args.conn c.args.stream c.as_slice.result.now c.in-Some.u.now (subst (λ list. AllByRecursion IsUpload list) (sym c.as_slice.ensures.value) c.self.invariant) c.in-Some.ensures
