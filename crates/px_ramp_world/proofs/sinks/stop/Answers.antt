use Rattle.std.proofs.Common.{◌<◌, List, [], ◌∷◌, ◌++◌, length, map, refl, ap, sym, subst, ◌∙◌, arith}
use Rattle.std.proofs.lemmas.List.{length-map}
use Rattle.px_model.specs.Stream.{Stream}
use Rattle.px_state.specs.State.{State}
use Rattle.px_state.specs.declared.effect.Effect.{Effect}
use Rattle.px_core.specs.Step.{sweep, effects_by}
use Rattle.px_world.specs.Consistency.{AreConsistent}
use Rattle.px_world.proofs.Consistent.{consistent-steps}
use Rattle.px_world.proofs.Sounding.{sink-there}
use Rattle.px_ramp_world.specs.Playing.{ramped_mixer_of, plain_mixer_of}
use Rattle.px_ramp_world.proofs.Sounding.{stops}
use Rattle.px_ramp_world.proofs.sinks.stop.Goals as goal

pub returns-clause-done : goal.returns-clause-done
returns-clause-done c = λ w same_core same_mixers.
    let within : c.args.sink.0 < length c.args.mixers.now = omega (arith, c.if-mixers-place.false) in
    let it = sink-there (map ramped_mixer_of c.args.mixers.now) c.args.sink.0 (omega (arith, within, length-map c.args.mixers.now ramped_mixer_of)) in
    stops w c.args.core.now.state _ same_core same_mixers c.args.sink.0 it.0 it.1 c.swept.new.core.state _ _ c.in_ok-effects.ensures.core c.stop_at.ensures.after
    (c.in_ok-effects.ensures.effects ∙ ap (λ (l : List Effect). l ++ effects_by Stream.spec c.args.core.now.state (sweep ∷ [])) c.new-none.ensures) refl c.silence.ensures refl

pub returns-clause-consistent : goal.returns-clause-consistent
returns-clause-consistent c =
    subst (λ (core : State Stream). AreConsistent core (map plain_mixer_of c.stop_at.new.mixers)) (sym c.in_ok-effects.ensures.core)
    (consistent-steps c.args.core.now.state (map plain_mixer_of c.stop_at.new.mixers) (sweep ∷ []) (c.stop_at.ensures.consistent c.args.core.now.state c.requires.consistent) (tt, tt) (tt, tt) (λ sink. (tt, tt)))
