use Rattle.std.proofs.Common.{rules, ◌≡◌, nat_eq, Some, Ok, Bor}
use Rattle.px_types.specs.declared.error_code.ErrorCode.TheVariants.{Invalid}
use Rattle.px_outcome.specs.declared.target.Target.{Target}
use Rattle.px_outcome.specs.Handled.{check}
use Rattle.px_monitor.specs.Create.{NO_INDEX}
use Rattle.px_monitor.proofs.Kept.{named_found}
use Rattle.px_monitor.proofs.checks.named.Goals as goal

pub returns-in_ok-check-in-Some : goal.returns-in_ok-check-in-Some
returns-in_ok-check-in-Some c =
    let name : c.args.source.now.name ≡ Some c.as_slice.result.now = search rules in
    let alone : check (nat_eq c.args.source.now.index NO_INDEX) Invalid ≡ Ok tt = search rules in
    named_found (λ (s : Bor Target). s.now) c.args.sources.now c.args.source.now.index c.args.source.now.name c.as_slice.result.now c.called.result c.found-in-Some.result
    name alone c.called.ensures c.found-in-Some.ensures
