use Rattle.std.proofs.Common.{◌≡◌, not, filter, rules, sym, subst}
use Rattle.std.proofs.lemmas.Fn.{filter_same}
use Rattle.std.specs.List.{AllByRecursion}
use Rattle.px_monitor.specs.Records.{is_stream, IsRecording}
use Rattle.px_monitor.proofs.Kept.{kept}
use Rattle.px_monitor.proofs.recorded.drop_stream.Goals as goal

pub returns-clause-items : goal.returns-clause-items
returns-clause-items c = filter_same _ _ _ (λ x b f' k. search rules) _ _ c.retain.ensures.filtered

pub returns-clause-lawful : goal.returns-clause-lawful
returns-clause-lawful c =
    let items : c.retain.new.self.items ≡ filter (λ r. not (is_stream c.args.conn c.args.stream r)) c.args.streams.now.items = filter_same _ _ _ (λ x b f' k. search rules) _ _ c.retain.ensures.filtered in
    λ all. subst (λ xs. AllByRecursion IsRecording xs) (sym items) (kept IsRecording (λ r. not (is_stream c.args.conn c.args.stream r)) c.args.streams.now.items all)
