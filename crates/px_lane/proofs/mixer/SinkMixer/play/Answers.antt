use Rattle.std.proofs.Common.{◌≡◌, ℕ, ◌+◌, ◌-◌, ◌*◌, ◌^◌, ◌≤◌, length, take, ap, sym, ◌∙◌, subst, arith}
use Rattle.std.specs.List.{AllByRecursion, sum_by}
use Rattle.px_model.specs.Frame.{frame_size}
use Rattle.px_model.specs.Sink.{Sink, Input, IsStreamOf}
use Rattle.px_model.specs.Turn.{next_horizon, settled, with_messages, remixed, asked}
use Rattle.px_stream.specs.Samples.{samples}
use Rattle.px_lane.specs.Taking.{CanTakeAll}
use Rattle.px_lane.specs.Whole.{AreFramesOf}
use Rattle.px_lane.specs.Lane.{IsLane}
use Rattle.px_lane.specs.Needed.{blocks_of}
use Rattle.px_lane.specs.Mixed.{CanMixAll}
use Rattle.px_lane.proofs.Mixable.{orderly_mixes}
use Rattle.px_lane.proofs.Orders.{orderly_taken}
use Rattle.px_lane.proofs.Turning.{posted_suit, posted_few, turned_lane}
use Rattle.px_lane.specs.Costs.{costs_of, mix_cost, more_frames}
use Rattle.px_lane.proofs.Costs.{settled_left, turned_cost}
use Rattle.px_lane.proofs.mixer.SinkMixer.play.Goals as goal

pub take_all-to-requires-clause-suits : goal.take_all-to-requires-clause-suits
take_all-to-requires-clause-suits g c =
    let sink = c.args.self.now.sink in
    subst (λ (s : Sink). CanTakeAll (s.filled - s.horizon) c.args.messages.now.messages s.inputs) (sym c.settle.ensures.value)
    (orderly_taken sink.spec (next_horizon sink c.args.frames - sink.horizon) (sink.filled - next_horizon sink c.args.frames) c.args.messages.now.messages sink.inputs c.requires.lane.holds.rising c.requires.lane.holds.streams c.requires.messages.orderly)

pub take_all-to-requires-clause-mixes : goal.take_all-to-requires-clause-mixes
take_all-to-requires-clause-mixes g c =
    let sink = c.args.self.now.sink in
    subst (λ (s : Sink). CanMixAll s.spec.channels (s.filled - s.horizon) c.args.messages.now.messages s.inputs) (sym c.settle.ensures.value)
    (orderly_mixes sink.spec (next_horizon sink c.args.frames - sink.horizon) (sink.filled - next_horizon sink c.args.frames) c.args.messages.now.messages sink.inputs c.requires.lane.holds.rising c.requires.lane.holds.streams c.requires.lane.few c.requires.messages.orderly)

pub remix-stay-requires-clause-resumed : goal.remix-stay-requires-clause-resumed
remix-stay-requires-clause-resumed g c = c.take_all-to.ensures.resumed

pub remix-stay-requires-clause-streams : goal.remix-stay-requires-clause-streams
remix-stay-requires-clause-streams g c =
    let sink = c.args.self.now.sink in
    let messages = c.args.messages.now.messages in
    let after : c.take_all-to.new.self.sink ≡ with_messages (settled sink c.args.frames) messages = c.take_all-to.ensures.value ∙ ap (λ (s : Sink). with_messages s messages) c.settle.ensures.value in
    subst (λ (s : Sink). AllByRecursion (λ x. IsStreamOf s.spec (Input.stream x)) s.inputs) (sym after)
    (posted_suit samples sink c.args.frames messages c.requires.lane.holds c.requires.there c.requires.messages)

pub remix-stay-requires-clause-few : goal.remix-stay-requires-clause-few
remix-stay-requires-clause-few g c =
    let sink = c.args.self.now.sink in
    let messages = c.args.messages.now.messages in
    let after : c.take_all-to.new.self.sink ≡ with_messages (settled sink c.args.frames) messages = c.take_all-to.ensures.value ∙ ap (λ (s : Sink). with_messages s messages) c.settle.ensures.value in
    subst (λ (s : Sink). length s.inputs ≤ 256) (sym after)
    (posted_few samples sink c.args.frames messages c.requires.lane c.requires.there c.requires.messages)

pub remix-stay-requires-clause-countable : goal.remix-stay-requires-clause-countable
remix-stay-requires-clause-countable g c =
    let sink = c.args.self.now.sink in
    let messages = c.args.messages.now.messages in
    let keeps = c.requires.lane.holds in
    let after : c.take_all-to.new.self.sink ≡ with_messages (settled sink c.args.frames) messages = c.take_all-to.ensures.value ∙ ap (λ (s : Sink). with_messages s messages) c.settle.ensures.value in
    subst (λ (s : Sink). s.consumed + s.depth ≤ 2 ^ 61) (sym after)
    (omega (arith, c.requires.there, c.requires.countable, c.requires.lane.low_depth, keeps.consumed_first, keeps.horizon_first))

pub returns-clause-within : goal.returns-clause-within
returns-clause-within g c =
    let sink = c.args.self.now.sink in
    let messages = c.args.messages.now.messages in
    subst (λ (s : Sink). c.remix-stay.result ≤ s.filled - s.horizon) (c.take_all-to.ensures.value ∙ ap (λ (s : Sink). with_messages s messages) c.settle.ensures.value) c.remix-stay.ensures.within

pub returns-clause-stay : goal.returns-clause-stay
returns-clause-stay g c =
    let sink = c.args.self.now.sink in
    let messages = c.args.messages.now.messages in
    let after : c.take_all-to.new.self.sink ≡ with_messages (settled sink c.args.frames) messages = c.take_all-to.ensures.value ∙ ap (λ (s : Sink). with_messages s messages) c.settle.ensures.value in
    let at : ℕ = (next_horizon sink c.args.frames - (sink.consumed + c.args.frames)) + c.remix-stay.result in
    ap (λ (s : Sink). take at s.buffer) c.ask.ensures.value
    ∙ subst (λ (s : Sink). take ((s.horizon - s.consumed) + c.remix-stay.result) (Sink.buffer c.remix-stay.new.self.sink) ≡ take ((s.horizon - s.consumed) + c.remix-stay.result) s.buffer) after c.remix-stay.ensures.stay

pub returns-clause-lane : goal.returns-clause-lane
returns-clause-lane g c =
    let sink = c.args.self.now.sink in
    let messages = c.args.messages.now.messages in
    let mixed : c.remix-stay.new.self.sink ≡ remixed samples (with_messages (settled sink c.args.frames) messages) =
    c.remix-stay.ensures.value ∙ ap (remixed samples) (c.take_all-to.ensures.value ∙ ap (λ (s : Sink). with_messages s messages) c.settle.ensures.value) in
    subst IsLane (sym (c.ask.ensures.value ∙ ap asked mixed))
    (turned_lane samples sink c.args.frames messages c.requires.lane c.requires.there c.requires.messages
    (subst (λ (s : Sink). AreFramesOf (frame_size s.spec) s.buffer) mixed c.remix-stay.ensures.whole))

pub take_all-to-requires-clause-mixed : goal.take_all-to-requires-clause-mixed
take_all-to-requires-clause-mixed g c =
    let sink = c.args.self.now.sink in
    let keeps = c.requires.lane.holds in
    c.settle.ensures.unaltered
    ∙ ap (λ (n : ℕ). n - (next_horizon sink c.args.frames - sink.horizon)) c.requires.mixed
    ∙ settled_left sink c.args.frames keeps.horizon_first keeps.horizon_near
    ∙ sym (ap (λ (s : Sink). s.filled - s.horizon) c.settle.ensures.value)

pub returns-clause-mixed : goal.returns-clause-mixed
returns-clause-mixed g c = c.ask.ensures.unaltered ∙ c.remix-stay.ensures.unaltered ∙ sym (ap (λ (s : Sink). s.filled - s.horizon) c.ask.ensures.value)

pub returns-clause-ticks : goal.returns-clause-ticks
returns-clause-ticks g c =
    let sink = c.args.self.now.sink in
    let messages = c.args.messages.now.messages in
    let n : ℕ = sink.filled - next_horizon sink c.args.frames in
    let after : c.take_all-to.new.self.sink ≡ with_messages (settled sink c.args.frames) messages = c.take_all-to.ensures.value ∙ ap (λ (s : Sink). with_messages s messages) c.settle.ensures.value in
    turned_cost sink.spec.channels (mix_cost (more_frames sink c.args.frames) (length (with_messages (settled sink c.args.frames) messages).inputs)) (costs_of n messages (settled sink c.args.frames).inputs)
    (sink.spec.channels * (n - c.take_all-to.new.self.unaltered)) c.args.steps.now c.take_all-to.new.steps c.remix-stay.new.steps
    (subst (λ (s : Sink). c.take_all-to.new.steps + s.spec.channels * ((s.filled - s.horizon) - c.take_all-to.new.self.unaltered) ≤ c.args.steps.now + s.spec.channels * costs_of (s.filled - s.horizon) messages s.inputs)
    c.settle.ensures.value c.take_all-to.ensures.ticks)
    (subst (λ (s : Sink). c.remix-stay.new.steps ≤ c.take_all-to.new.steps + s.spec.channels * mix_cost (s.consumed + s.depth - s.filled) (length s.inputs) + s.spec.channels * ((s.filled - s.horizon) - c.take_all-to.new.self.unaltered))
    after c.remix-stay.ensures.ticks)

pub settle-requires-clause-there : goal.settle-requires-clause-there
settle-requires-clause-there g c = c.requires.there

pub settle-requires-clause-streams : goal.settle-requires-clause-streams
settle-requires-clause-streams g c = c.requires.lane.holds.streams

pub take_all-to-requires-clause-room : goal.take_all-to-requires-clause-room
take_all-to-requires-clause-room g c = subst (λ (n : ℕ). length c.args.messages.now.messages ≤ n) (sym c.settle.ensures.room) c.requires.room

pub take_all-to-requires-clause-block_room : goal.take_all-to-requires-clause-block_room
take_all-to-requires-clause-block_room g c = subst (λ (n : ℕ). sum_by blocks_of c.args.messages.now.messages ≤ n) (sym c.settle.ensures.block_room) c.requires.block_room

pub take_all-to-requires-clause-comes : goal.take_all-to-requires-clause-comes
take_all-to-requires-clause-comes g c = subst (λ (n : ℕ). n ≤ c.args.messages.now.room) (sym c.settle.ensures.room) c.requires.comes

pub take_all-to-requires-clause-blocks_come : goal.take_all-to-requires-clause-blocks_come
take_all-to-requires-clause-blocks_come g c = subst (λ (n : ℕ). n ≤ c.args.messages.now.block_room) (sym c.settle.ensures.block_room) c.requires.blocks_come

pub returns-clause-capacity : goal.returns-clause-capacity
returns-clause-capacity g c = c.ask.ensures.capacity ∙ c.take_all-to.ensures.capacity ∙ c.settle.ensures.capacity

pub returns-clause-list : goal.returns-clause-list
returns-clause-list g c = c.take_all-to.ensures.list

pub returns-clause-messages : goal.returns-clause-messages
returns-clause-messages g c = c.take_all-to.ensures.messages

pub returns-clause-value : goal.returns-clause-value
returns-clause-value g c =
    let sink = c.args.self.now.sink in
    let messages = c.args.messages.now.messages in
    let mixed : c.remix-stay.new.self.sink ≡ remixed samples (with_messages (settled sink c.args.frames) messages) =
    c.remix-stay.ensures.value ∙ ap (remixed samples) (c.take_all-to.ensures.value ∙ ap (λ (s : Sink). with_messages s messages) c.settle.ensures.value) in
    c.ask.ensures.value ∙ ap asked mixed
