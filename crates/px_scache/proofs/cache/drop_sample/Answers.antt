use Rattle.std.proofs.Common.{◌≡◌, rules, sym, subst}
use Rattle.std.proofs.lemmas.Fn.{filter_same}
use Rattle.px_scache.specs.Cache.{others, IsCache}
use Rattle.px_scache.proofs.Room.{others_are}
use Rattle.px_scache.proofs.cache.drop_sample.Goals as goal

pub returns-clause-items : goal.returns-clause-items
returns-clause-items c = filter_same _ _ _ (λ x b f' k. search rules) _ _ c.retain.ensures.filtered

pub returns-clause-lawful : goal.returns-clause-lawful
returns-clause-lawful c =
    let items : c.retain.new.self.items ≡ others c.args.name.now c.args.samples.now.items = filter_same _ _ _ (λ x b f' k. search rules) _ _ c.retain.ensures.filtered in
    λ is. subst IsCache (sym items) (others_are c.args.name.now c.args.samples.now.items is)
