use Rattle.std.proofs.Common.{◌≡◌, not, filter, rules, sym, subst}
use Rattle.std.proofs.lemmas.Fn.{filter_same}
use Rattle.std.specs.List.{AllByRecursion}
use Rattle.px_scache.specs.Uploads.{is_upload, IsUpload}
use Rattle.px_scache.proofs.Kept.{kept}
use Rattle.px_scache.proofs.uploads.drop_upload.Goals as goal

pub returns-clause-items : goal.returns-clause-items
returns-clause-items c = filter_same _ _ _ (λ x b f' k. search rules) _ _ c.retain.ensures.filtered

pub returns-clause-lawful : goal.returns-clause-lawful
returns-clause-lawful c =
    let items : c.retain.new.self.items ≡ filter (λ u. not (is_upload c.args.conn c.args.stream u)) c.args.list.now.items = filter_same _ _ _ (λ x b f' k. search rules) _ _ c.retain.ensures.filtered in
    λ all. subst (λ xs. AllByRecursion IsUpload xs) (sym items) (kept IsUpload (λ u. not (is_upload c.args.conn c.args.stream u)) c.args.list.now.items all)
