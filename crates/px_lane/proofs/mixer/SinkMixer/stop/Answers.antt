use Rattle.std.proofs.Common.{◌≡◌, ◌-◌, ap, sym, ◌∙◌, subst, arith}
use Rattle.px_model.specs.Frame.{frame_size}
use Rattle.px_model.specs.Sink.{Sink}
use Rattle.px_model.specs.Turn.{next_horizon, with_messages, asked, halted}
use Rattle.px_lane.specs.Taking.{CanTakeAll}
use Rattle.px_lane.specs.Mixing.{given_up}
use Rattle.px_lane.specs.Whole.{AreFramesOf}
use Rattle.px_lane.specs.Lane.{IsLane}
use Rattle.px_lane.specs.Mixed.{CanMixAll}
use Rattle.px_lane.proofs.Mixable.{orderly_mixes}
use Rattle.px_lane.proofs.Orders.{orderly_taken}
use Rattle.px_lane.proofs.Turning.{stopped_lane, halted_is}
use Rattle.px_lane.proofs.Costs.{nothing_left, stopped_free}
use Rattle.px_lane.proofs.mixer.SinkMixer.stop.Goals as goal

pub take_all-requires-clause-suits : goal.take_all-requires-clause-suits
take_all-requires-clause-suits g c =
    let sink = c.args.self.now.sink in
    subst (λ (s : Sink). CanTakeAll (s.filled - s.horizon) c.args.messages.now.messages s.inputs) (sym (c.drop_unplayed.ensures.value ∙ ap given_up c.settle.ensures.value))
    (orderly_taken sink.spec (next_horizon sink 0 - sink.horizon) (next_horizon sink 0 - next_horizon sink 0) c.args.messages.now.messages sink.inputs c.requires.lane.holds.rising c.requires.lane.holds.streams c.requires.messages.orderly)

pub take_all-requires-clause-mixes : goal.take_all-requires-clause-mixes
take_all-requires-clause-mixes g c =
    let sink = c.args.self.now.sink in
    subst (λ (s : Sink). CanMixAll s.spec.channels (s.filled - s.horizon) c.args.messages.now.messages s.inputs) (sym (c.drop_unplayed.ensures.value ∙ ap given_up c.settle.ensures.value))
    (orderly_mixes sink.spec (next_horizon sink 0 - sink.horizon) (next_horizon sink 0 - next_horizon sink 0) c.args.messages.now.messages sink.inputs c.requires.lane.holds.rising c.requires.lane.holds.streams c.requires.lane.few c.requires.messages.orderly)

pub returns-clause-lane : goal.returns-clause-lane
returns-clause-lane g c =
    let sink = c.args.self.now.sink in
    let messages = c.args.messages.now.messages in
    let up : c.drop_unplayed.new.self.sink ≡ halted sink = c.drop_unplayed.ensures.value ∙ ap given_up c.settle.ensures.value ∙ halted_is sink in
    subst IsLane (sym (c.ask.ensures.value ∙ ap asked (c.take_all.ensures.value ∙ ap (λ (s : Sink). with_messages s messages) up)))
    (stopped_lane sink messages c.requires.lane c.requires.messages
    (subst (λ (s : Sink). AreFramesOf (frame_size s.spec) s.buffer) up c.drop_unplayed.ensures.whole))

pub take_all-requires-clause-mixed : goal.take_all-requires-clause-mixed
take_all-requires-clause-mixed g c =
    let sink = c.args.self.now.sink in
    let up : c.drop_unplayed.new.self.sink ≡ halted sink = c.drop_unplayed.ensures.value ∙ ap given_up c.settle.ensures.value ∙ halted_is sink in
    c.drop_unplayed.ensures.unaltered ∙ nothing_left (next_horizon sink 0) ∙ sym (ap (λ (s : Sink). s.filled - s.horizon) up)

pub returns-clause-mixed : goal.returns-clause-mixed
returns-clause-mixed g c =
    let sink = c.args.self.now.sink in
    let messages = c.args.messages.now.messages in
    let up : c.drop_unplayed.new.self.sink ≡ halted sink = c.drop_unplayed.ensures.value ∙ ap given_up c.settle.ensures.value ∙ halted_is sink in
    let ends : c.ask.new.self.sink ≡ asked (with_messages (halted sink) messages) = c.ask.ensures.value ∙ ap asked (c.take_all.ensures.value ∙ ap (λ (s : Sink). with_messages s messages) up) in
    let still : c.take_all.new.self.unaltered ≡ 0 = omega (arith, c.take_all.ensures.less, c.drop_unplayed.ensures.unaltered) in
    c.ask.ensures.unaltered ∙ still ∙ nothing_left (next_horizon sink 0) ∙ sym (ap (λ (s : Sink). s.filled - s.horizon) ends)

pub returns-clause-ticks : goal.returns-clause-ticks
returns-clause-ticks g c =
    let sink = c.args.self.now.sink in
    let there = c.drop_unplayed.new.self.sink in
    let up : c.drop_unplayed.new.self.sink ≡ halted sink = c.drop_unplayed.ensures.value ∙ ap given_up c.settle.ensures.value ∙ halted_is sink in
    stopped_free there.spec.channels (there.filled - there.horizon) c.take_all.new.self.unaltered c.args.steps.now c.take_all.new.steps c.args.messages.now.messages there.inputs
    (ap (λ (s : Sink). s.filled - s.horizon) up ∙ sym (nothing_left (next_horizon sink 0))) c.take_all.ensures.ticks
