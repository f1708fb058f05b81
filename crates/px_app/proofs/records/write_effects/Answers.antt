use Rattle.std.proofs.Common.{◌≡◌, ◌++◌, take, drop, suc, sym, subst}
use Rattle.std.specs.List.{flat_map}
use Rattle.std.proofs.lemmas.Result.{err_from_is_err_and}
use Rattle.px_state.specs.declared.effect.Effect.{Effect}
use Rattle.px_world.specs.Output.{effect_record}
use Rattle.px_session.proofs.Added.{front_then, flat_map_around}
use Rattle.px_app.proofs.records.write_effects.Goals as goal

pub returns-in_err-write_effect_record-clause-err : goal.returns-in_err-write_effect_record-clause-err
returns-in_err-write_effect_record-clause-err g c =
    let i = c.loop-effect.effect-index in
    let effects = c.args.effects.now in
    let this = c.effect-item.result in
    let done = flat_map effect_record (take i effects) in
    let more = flat_map effect_record (drop (suc i) effects) in
    let whole = λ (e : Effect). flat_map effect_record effects ≡ done ++ (effect_record e ++ more) in
    let p = err_from_is_err_and c.from_residual.result c.from_residual.ensures.1 in
    rw (p.1) (front_then done (effect_record this) more (flat_map effect_record effects) (g.K.Sink.held c.args.output.now) _ _ c.loop-effect.invariant.added c.in_err-write_effect_record.ensures.err (subst whole (sym c.effect-item.is) (flat_map_around effect_record effects i this c.loop-effect-test.true)))
