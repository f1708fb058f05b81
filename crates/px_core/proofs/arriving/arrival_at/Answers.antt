use Rattle.std.proofs.Common.{sym, subst, ap, ◌∙◌}
use Rattle.std.specs.Prelude.{slice_get, IfSome}
use Rattle.std.proofs.lemmas.Result.{IfOk-weaker}
use Rattle.px_outcome.specs.Target.{IsTarget}
use Rattle.px_sinks.specs.Sinks.{target_at}
use Rattle.px_state.specs.Tables.{state_of}
use Rattle.px_core.specs.Notice.{arrival_between}
use Rattle.px_core.proofs.arriving.arrival_at.Goals as goal

pub arrival_on-made-requires-clause-there : goal.arrival_on-made-requires-clause-there
arrival_on-made-requires-clause-there g c = ap (λ sinks. target_at sinks c.args.to) (sym c.as_slice.ensures) ∙ sym c.in_ok-sink.ensures.value ∙ c.in-Some.is

pub arrival_on-made-requires-clause-lawful : goal.arrival_on-made-requires-clause-lawful
arrival_on-made-requires-clause-lawful g c = subst (λ o. IfSome o IsTarget) c.in-Some.is c.in_ok-sink.ensures.lawful

pub returns : goal.returns
returns g c =
    let there = ap (λ sinks. target_at sinks c.args.to) (sym c.as_slice.ensures) ∙ sym c.in_ok-sink.ensures.value ∙ c.in-Some.is in
    let state = state_of c.args.tables.now in
    IfOk-weaker c.arrival_on-made.result _ _
    (λ made is. is ∙ ap (λ sink. arrival_between state c.args.x.now sink (slice_get state.groups c.args.x.now.sink.0) (slice_get state.groups c.args.to.0)) (sym there))
    c.arrival_on-made.ensures
