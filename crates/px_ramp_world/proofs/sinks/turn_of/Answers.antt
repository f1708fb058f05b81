use Rattle.std.proofs.Common.{[], ◌∷◌, ◌++◌, map, take, replicate, ap, sym, subst, ◌∙◌}
use Rattle.px_model.specs.Stream.{Stream}
use Rattle.px_model.specs.Orderly.{IsOrderly}
use Rattle.px_model.specs.Sink.{specs_of}
use Rattle.px_msg.specs.View.{message_of}
use Rattle.px_state.specs.Out.{waiting_for}
use Rattle.px_core.specs.Step.{out, sweep}
use Rattle.px_ramp_world.specs.Event.{ramped_turned}
use Rattle.px_ramp_world.specs.Playing.{ramped_mixer_of}
use Rattle.px_world.proofs.Steps.{out-silent}
use Rattle.px_world.proofs.Going.{steps-behind, effects-behind}
use Rattle.px_ramp_world.proofs.sinks.turn_of.Goals as goal

pub turn-requires-clause-messages : goal.turn-requires-clause-messages
turn-requires-clause-messages c =
    subst (IsOrderly Stream.spec c.args.playing.now.lane.ramped.sink.spec (specs_of c.args.playing.now.lane.ramped.sink.inputs))
    (sym (c.in_ok-take_messages.ensures.messages ∙ ap (λ l. l ++ map (message_of (λ p. p)) (take c.args.count (waiting_for c.args.core.now.state c.args.sink))) c.new-messages.ensures))
    c.requires.messages.orderly

pub returns-clause-core : goal.returns-clause-core
returns-clause-core c =
    steps-behind Stream.spec c.args.core.now.state _ _ (replicate c.args.count (out c.args.sink)) (sweep ∷ []) c.in_ok-take_messages.ensures.core c.in_ok-effects.ensures.core

pub returns-clause-effects : goal.returns-clause-effects
returns-clause-effects c =
    effects-behind Stream.spec c.args.core.now.state _ (replicate c.args.count (out c.args.sink)) (sweep ∷ []) _ _ c.in_ok-take_messages.ensures.core
    (c.new-none.ensures ∙ sym (out-silent Stream.spec c.args.sink c.args.core.now.state c.args.count)) c.in_ok-effects.ensures.effects

pub returns-clause-mixer : goal.returns-clause-mixer
returns-clause-mixer c =
    c.in_ok-sound.ensures.mixer
    ∙ ap (ramped_turned (ramped_mixer_of c.args.playing.now) c.args.frames)
    (c.in_ok-take_messages.ensures.messages ∙ ap (λ l. l ++ map (message_of (λ p. p)) (take c.args.count (waiting_for c.args.core.now.state c.args.sink))) c.new-messages.ensures)
