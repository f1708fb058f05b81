use Rattle.std.proofs.Common.{◌≡◌, ◌++◌, ℕ, List, Option, ap, subst, ◌∙◌}
use Rattle.std.specs.List.{flat_map}
use Rattle.std.proofs.lemmas.Result.{err_from_is_err_and, on_err_weaker}
use Rattle.px_state.specs.declared.effect.Effect.{Effect}
use Rattle.px_ends.specs.Visible.{after_adding}
use Rattle.px_ends.specs.Whole.{AddsFront}
use Rattle.px_ends.proofs.VisibleBytes.{adding_both}
use Rattle.px_world.specs.Output.{effect_record}
use Rattle.px_app.specs.Records.{turn_part}
use Rattle.px_app.proofs.FrontLaws.{first_cut, second_cut}
use Rattle.px_app.proofs.records.write_monitored.Goals as goal

pub returns-in_err-write_effects-clause-err : goal.returns-in_err-write_effects-clause-err
returns-in_err-write_effects-clause-err g c =
    let effects = flat_map effect_record c.args.outcome.now.effects in
    let turn = turn_part c.args.sink c.args.outcome.now.stopped c.args.outcome.now.frames c.args.outcome.now.played in
    let sent = flat_map effect_record c.args.outcome.now.sent in
    let old = g.K.Sink.held c.args.output.now in
    let now = g.K.Sink.held c.write_effects.new.output in
    let cut = subst (λ (es : List Effect). AddsFront (flat_map effect_record es) old now) c.as_slice.ensures.items c.in_err-write_effects.ensures.err in
    let p = err_from_is_err_and c.from_residual.result c.from_residual.ensures.1 in
    rw (p.1) (first_cut (effects ++ turn) sent old now (first_cut effects turn old now cut))

pub returns-in_err-write_turn-clause-err : goal.returns-in_err-write_turn-clause-err
returns-in_err-write_turn-clause-err g c =
    let effects = flat_map effect_record c.args.outcome.now.effects in
    let turn = λ (bytes : List ℕ). turn_part c.args.sink c.args.outcome.now.stopped c.args.outcome.now.frames bytes in
    let sent = flat_map effect_record c.args.outcome.now.sent in
    let old = g.K.Sink.held c.args.output.now in
    let mid = g.K.Sink.held c.write_effects.new.output in
    let now = g.K.Sink.held c.write_turn.new.output in
    let first : mid ≡ after_adding old effects = c.in_ok-write_effects.ensures.ok ∙ ap (λ (es : List Effect). after_adding old (flat_map effect_record es)) c.as_slice.ensures.items in
    let cut = subst (λ (bytes : List ℕ). AddsFront (turn bytes) mid now) c.as_slice-2.ensures c.in_err-write_turn.ensures.err in
    let p = err_from_is_err_and c.from_residual-in_err-write_turn.result c.from_residual-in_err-write_turn.ensures.1 in
    rw (p.1) (first_cut (effects ++ turn c.args.outcome.now.played) sent old now (second_cut effects (turn c.args.outcome.now.played) old mid now first cut))

pub returns-clause-err : goal.returns-clause-err
returns-clause-err g c =
    let effects = flat_map effect_record c.args.outcome.now.effects in
    let turn = λ (bytes : List ℕ). turn_part c.args.sink c.args.outcome.now.stopped c.args.outcome.now.frames bytes in
    let sent = flat_map effect_record c.args.outcome.now.sent in
    let old = g.K.Sink.held c.args.output.now in
    let mid = g.K.Sink.held c.write_effects.new.output in
    let later = g.K.Sink.held c.write_turn.new.output in
    let now = g.K.Sink.held c.write_effects-2.new.output in
    let first : mid ≡ after_adding old effects = c.in_ok-write_effects.ensures.ok ∙ ap (λ (es : List Effect). after_adding old (flat_map effect_record es)) c.as_slice.ensures.items in
    let both : later ≡ after_adding old (effects ++ turn c.args.outcome.now.played) =
    c.in_ok-write_turn.ensures.ok ∙ ap (λ (bytes : List ℕ). after_adding mid (turn bytes)) c.as_slice-2.ensures
    ∙ ap (λ (held : Option (List ℕ)). after_adding held (turn c.args.outcome.now.played)) first ∙ adding_both effects (turn c.args.outcome.now.played) old in
    on_err_weaker c.write_effects-2.result
    (λ cut. second_cut (effects ++ turn c.args.outcome.now.played) sent old later now both
    (subst (λ (es : List Effect). AddsFront (flat_map effect_record es) later now) c.as_slice-3.ensures.items cut)) c.write_effects-2.ensures.err
