-- Where no connection is to be swept away, an event that sets a sink's device to fail does nothing else.
use Rattle.std.proofs.Common.{◌≡◌, List, [], ◌++◌, ap}
use Rattle.px_types.specs.declared.ids.SinkId.{SinkId}
use Rattle.px_session.specs.declared.event.Event.TheVariants.{Stop}
use Rattle.px_model.specs.Stream.{Stream}
use Rattle.px_state.specs.declared.effect.Effect.{Effect}
use Rattle.px_state.specs.State.{State, marked_of}
use Rattle.px_core.proofs.Silent.{unswept_state, unswept_effects}
use Rattle.px_world.specs.World.{World}
use Rattle.px_world.specs.Event.{world_after, effects_after, world_stopping}

pub stop-unswept : (w : World) (sink : SinkId) → marked_of w.core.connections ≡ [] → world_after w (Stop sink) ≡ world_stopping w sink.0
stop-unswept w sink none = ap (λ (core : State Stream). record (world_stopping w sink.0) { core = core }) (unswept_state Stream w.core none)

pub stop-silent : (w : World) (sink : SinkId) → marked_of w.core.connections ≡ [] → effects_after w (Stop sink) ≡ []
stop-silent w sink none = ap (λ (effects : List Effect). effects ++ []) (unswept_effects Stream w.core none)
