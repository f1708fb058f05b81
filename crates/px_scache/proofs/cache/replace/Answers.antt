use Rattle.std.proofs.Common.{◌≡◌, rules, sym, subst}
use Rattle.px_scache.specs.Cache.{stored, IsCache}
use Rattle.px_scache.proofs.Room.{stored_is}
use Rattle.px_scache.proofs.cache.replace.Goals as goal

pub returns-clause-lawful : goal.returns-clause-lawful
returns-clause-lawful c =
    let items : c.push_reserved.new.self.items ≡ stored c.args.sample c.args.samples.now.items = search rules in
    subst IsCache (sym items) (stored_is c.args.sample c.args.samples.now.items c.requires.lawful c.requires.sample c.requires.fits)
