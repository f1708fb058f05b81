use Rattle.std.proofs.Common.{refl}
use Rattle.px_sieve.proofs.Hearing.{hears-unheard}
use Rattle.px_sieve.proofs.line.unheard.Goals as goal

pub returns-clause-hears : goal.returns-clause-hears
returns-clause-hears c = hears-unheard _ c.args.conn refl c.new.ensures.fed refl c.new-2.ensures.items c.new-3.ensures.items refl
