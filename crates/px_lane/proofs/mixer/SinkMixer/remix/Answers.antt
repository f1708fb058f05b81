use Rattle.std.proofs.Common.{◌≡◌, ℕ, ◌+◌, ◌-◌, ◌*◌, ◌^◌, ◌≤◌, length, take, ap, sym, ◌∙◌, subst, arith}
use Rattle.std.specs.List.{AllByRecursion}
use Rattle.px_model.specs.Sink.{Sink, Input, IsStreamOf}
use Rattle.px_model.specs.Turn.{remixed}
use Rattle.px_stream.specs.Samples.{samples}
use Rattle.px_lane.specs.Costs.{mix_cost}
use Rattle.px_lane.proofs.Remixing.{shorter, remixed_by_front}
use Rattle.px_lane.proofs.mixer.SinkMixer.remix.Goals as goal

pub mix_on-requires-clause-streams : goal.mix_on-requires-clause-streams
mix_on-requires-clause-streams g c = subst (λ (s : Sink). AllByRecursion (λ x. IsStreamOf s.spec (Input.stream x)) s.inputs) (sym c.renew-stay.ensures.value) c.requires.streams

pub mix_on-requires-clause-few : goal.mix_on-requires-clause-few
mix_on-requires-clause-few g c = subst (λ (s : Sink). length s.inputs ≤ 256) (sym c.renew-stay.ensures.value) c.requires.few

pub mix_on-requires-clause-countable : goal.mix_on-requires-clause-countable
mix_on-requires-clause-countable g c = subst (λ (s : Sink). s.consumed + s.depth ≤ 2 ^ 61) (sym c.renew-stay.ensures.value) c.requires.countable

pub returns-clause-value : goal.returns-clause-value
returns-clause-value g c =
    let sink = c.args.self.now.sink in
    c.mix_on.ensures.value ∙ ap (remixed samples) c.renew-stay.ensures.value
    ∙ remixed_by_front sink c.args.self.now.unaltered (Sink.buffer c.renew-stay.new.self.sink) c.renew-stay.ensures.stay

pub returns-clause-within : goal.returns-clause-within
returns-clause-within g c = omega (arith, c.renew-stay.ensures.front, c.renew-stay.ensures.within)

pub returns-clause-stay : goal.returns-clause-stay
returns-clause-stay g c =
    let sink = c.args.self.now.sink in
    subst (λ (n : ℕ). take ((sink.horizon - sink.consumed) + n) (Sink.buffer c.mix_on.new.self.sink) ≡ take ((sink.horizon - sink.consumed) + n) sink.buffer) (sym c.renew-stay.ensures.front)
    (shorter ((sink.horizon - sink.consumed) + c.args.self.now.unaltered) ((sink.horizon - sink.consumed) + c.renew-stay.new.self.unaltered) (Sink.buffer c.mix_on.new.self.sink) (Sink.buffer c.renew-stay.new.self.sink)
    (omega (arith, c.renew-stay.ensures.more, c.renew-stay.ensures.within))
    (subst (λ (s : Sink). take ((s.horizon - s.consumed) + c.renew-stay.new.self.unaltered) (Sink.buffer c.mix_on.new.self.sink) ≡ take ((s.horizon - s.consumed) + c.renew-stay.new.self.unaltered) (Sink.buffer c.renew-stay.new.self.sink))
    c.renew-stay.ensures.value c.mix_on.ensures.stay)
    ∙ c.renew-stay.ensures.stay)

pub returns-clause-ticks : goal.returns-clause-ticks
returns-clause-ticks g c =
    let sink = c.args.self.now.sink in
    let fresh = subst (λ (s : Sink). c.mix_on.new.steps ≤ c.renew-stay.new.steps + s.spec.channels * mix_cost (s.consumed + s.depth - s.filled) (length s.inputs)
    + s.spec.channels * ((s.filled - s.horizon) - c.renew-stay.new.self.unaltered)) c.renew-stay.ensures.value c.mix_on.ensures.ticks in
    omega (arith, fresh, c.renew-stay.ensures.ticks)
