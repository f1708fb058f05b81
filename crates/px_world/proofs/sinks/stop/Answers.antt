use Rattle.std.proofs.Common.{[], ◌∷◌, map, sym, subst}
use Rattle.px_model.specs.Stream.{Stream}
use Rattle.px_state.specs.State.{State}
use Rattle.px_core.specs.Step.{sweep}
use Rattle.px_world.specs.Playing.{mixer_of}
use Rattle.px_world.specs.Consistency.{AreConsistent}
use Rattle.px_world.proofs.Consistent.{consistent-steps}
use Rattle.px_world.proofs.sinks.stop.Goals as goal

pub returns-clause-consistent : goal.returns-clause-consistent
returns-clause-consistent c =
    subst (λ (core : State Stream). AreConsistent core (map mixer_of c.stop_at.new.mixers)) (sym c.in_ok-effects.ensures.core)
    (consistent-steps c.args.core.now.state (map mixer_of c.stop_at.new.mixers) (sweep ∷ []) (c.stop_at.ensures.consistent c.args.core.now.state c.requires.consistent) (tt, tt) (tt, tt) (λ sink. (tt, tt)))
