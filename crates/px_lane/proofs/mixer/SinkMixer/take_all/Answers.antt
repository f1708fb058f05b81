use Rattle.std.proofs.Common.{◌≡◌, ℕ, ◌+◌, ◌-◌, ◌*◌, ◌≤◌, ◌∙◌, sym, subst, arith}
use Rattle.px_sample.specs.declared.spec.Spec.{Spec}
use Rattle.px_msg.specs.View.{sample_spec}
use Rattle.px_model.specs.Sink.{Sink}
use Rattle.px_lane.specs.Mixing.{RoomySink, sink_of}
use Rattle.px_lane.specs.Costs.{costs_of}
use Rattle.px_lane.proofs.Staying.{unaltered_stays, resumed_stays}
use Rattle.px_lane.proofs.mixer.SinkMixer.take_all.Goals as goal

pub invariant_of-self : goal.invariant_of-self
invariant_of-self g c =
    let d = c.self.inside in
    let before : Sink = sink_of d.spec (record { guard = d.guard; depth = d.depth; consumed = d.consumed; filled = d.filled; horizon = d.horizon }) d.stopped d.bytes d.inputs.inputs in (
      c.self.invariant.0,
      c.self.invariant.1,
      c.self.invariant.2,
      unaltered_stays before d.unaltered c.take_all-altered.result.from c.min-self-inside.result c.take_all-altered.new.self.inputs c.self.invariant.3 (c.take_all-altered.ensures.unaltered (sample_spec d.spec))
          (omega (arith, c.min-self-inside.ensures)) (omega (arith, c.min-self-inside.ensures)),
      c.take_all-altered.ensures.spec ∙ c.self.invariant.4,
      c.take_all-altered.ensures.depth ∙ c.self.invariant.5,
      c.take_all-altered.ensures.frames ∙ c.self.invariant.6,
    )

pub returns-clause-ticks : goal.returns-clause-ticks
returns-clause-ticks g c =
    let d = c.self.inside in
    let messages = c.args.messages.now.messages in
    let n : d.inputs.frames ≡ d.filled - d.horizon = c.self.invariant.6 in
    let all : d.unaltered ≡ d.filled - d.horizon = subst (λ (m : RoomySink). m.unaltered ≡ m.sink.filled - m.sink.horizon) (sym c.self.view_is) c.requires.mixed in
    let left : (d.filled - d.horizon) - c.take_all-altered.result.from ≡ (d.filled - d.horizon) - c.min-self-inside.result = omega (arith, all, c.min-self-inside.ensures) in
    let noticed = subst (λ (f : ℕ). c.take_all-altered.new.steps + d.spec.channels * (f - c.take_all-altered.result.from) ≤ c.args.steps.now + d.spec.channels * costs_of f c.args.messages.now.messages d.inputs.inputs) n
    (subst (λ (s : Spec). c.take_all-altered.new.steps + s.channels * (d.inputs.frames - c.take_all-altered.result.from) ≤ c.args.steps.now + s.channels * costs_of d.inputs.frames c.args.messages.now.messages d.inputs.inputs)
    c.self.invariant.4 c.take_all-altered.ensures.ticks) in
    subst (λ (m : RoomySink). c.take_all-altered.new.steps + m.sink.spec.channels * ((m.sink.filled - m.sink.horizon) - c.min-self-inside.result)
    ≤ c.args.steps.now + m.sink.spec.channels * costs_of (m.sink.filled - m.sink.horizon) c.args.messages.now.messages m.sink.inputs) c.self.view_is
    (subst (λ (x : ℕ). c.take_all-altered.new.steps + d.spec.channels * x ≤ c.args.steps.now + d.spec.channels * costs_of (d.filled - d.horizon) c.args.messages.now.messages d.inputs.inputs) left noticed)

pub returns-clause-less : goal.returns-clause-less
returns-clause-less g c = subst (λ (m : RoomySink). c.min-self-inside.result ≤ m.unaltered) c.self.view_is (omega (arith, c.min-self-inside.ensures))

pub returns-clause-resumed : goal.returns-clause-resumed
returns-clause-resumed g c =
    let d = c.self.inside in
    let before : Sink = sink_of d.spec (record { guard = d.guard; depth = d.depth; consumed = d.consumed; filled = d.filled; horizon = d.horizon }) d.stopped d.bytes d.inputs.inputs in
    let all : d.unaltered ≡ d.filled - d.horizon = subst (λ (m : RoomySink). m.unaltered ≡ m.sink.filled - m.sink.horizon) (sym c.self.view_is) c.requires.mixed in
    resumed_stays before d.unaltered c.take_all-altered.result.to c.take_all-altered.new.self.inputs c.self.invariant.3 all
    (λ k past less. c.take_all-altered.ensures.resumed (sample_spec d.spec) k past (omega (arith, less, all, c.self.invariant.6)))
