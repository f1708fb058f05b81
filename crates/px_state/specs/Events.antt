-- The subscription events of a step, by the states before it and after it.
use Rattle.std.specs.Prelude.{List}
use Rattle.px_subscribe.specs.Scene.{Scene, scene_at}
use Rattle.px_subscribe.specs.Moments.{notified_between}
use Rattle.px_state.specs.declared.effect.Effect.{Effect}
use Rattle.px_state.specs.Outcome.{sent_all}
use Rattle.px_state.specs.State.{State}

-- the parts of a state that infos and subscriptions read
abbrev pub scene_of : {P : Type 0} → State P → Scene
scene_of state = scene_at state.names state.connections state.inputs state.lists state.groups state.inputs_made

unfoldable pub step_events : {P : Type 0} → State P → State P → List Effect
step_events before after = sent_all (notified_between before.sinks after.clients_made (scene_of before) (scene_of after))
