use Rattle.std.proofs.Common.{◌≡◌, ℕ, ◌+◌, ◌-◌, ◌*◌, ◌≤◌, ◌++◌, List, length, ap, sym, ◌∙◌, subst, arith, append_assoc}
use Rattle.std.specs.List.{sum_by}
use Rattle.std.proofs.lemmas.List.Sums.{sum_by-cons}
use Rattle.px_sample.specs.declared.spec.Spec.{Spec}
use Rattle.px_model.specs.Stream.{Stream}
use Rattle.px_model.specs.Message.{Message}
use Rattle.px_model.specs.Notice.{Notice}
use Rattle.px_model.specs.Sink.{Input as Stands}
use Rattle.px_model.specs.Turn.{inputs_with, inputs_with_all, message_notices, all_message_notices}
use Rattle.px_lane.specs.Mixed.{CanMix, CanMixAll}
use Rattle.px_lane.specs.Needed.{blocks_of}
use Rattle.px_lane.specs.Taking.{CanTakeAll, ready_inputs, ready_notices}
use Rattle.px_lane.proofs.Readied.{take_fits, left_less}
use Rattle.px_lane.specs.Costs.{ready_cost, cost_of, costs_of}
use Rattle.px_lane.proofs.Mixable.{mixes_now}
use Rattle.px_lane.proofs.Costs.{next_cost}
use Rattle.px_lane.proofs.mixed.MixedInputs.take_all.Goals as goal

pub take-more-requires-clause-block_room : goal.take-more-requires-clause-block_room
take-more-requires-clause-block_room g c =
    let l = c.loop-message in
    let n = c.in-Some.ensures.value in
    let whole : sum_by blocks_of l.messages.messages ≡ blocks_of n.0 + sum_by blocks_of c.next.new.self.messages =
    ap (λ (ms : List (Message Stream)). sum_by blocks_of ms) n.1 ∙ sum_by-cons blocks_of n.0 c.next.new.self.messages in
    omega (arith, whole, n.2.blocks, l.invariant.7)

pub take-more-requires-clause-comes : goal.take-more-requires-clause-comes
take-more-requires-clause-comes g c =
    let l = c.loop-message in
    left_less l.messages.room (l.self.room - 1) l.messages.block_room l.self.block_room c.in-Some.message (omega (arith, l.invariant.4)) l.invariant.8 c.in-Some.ensures.value.3

pub take-more-requires-clause-mixes : goal.take-more-requires-clause-mixes
take-more-requires-clause-mixes g c =
    let l = c.loop-message in
    let n = c.in-Some.ensures.value in
    let frames = c.args.self.now.frames in
    let channels = c.args.self.now.spec.channels in
    let all = subst (λ (ms : List (Message Stream)). CanMixAll c.args.self.now.spec.channels c.args.self.now.frames ms l.self.inputs) n.1 l.invariant.13 in
    subst (λ (s : Spec). CanMix s.channels (ready_inputs l.self.frames c.in-Some.message l.self.inputs)) (sym l.invariant.10)
    (subst (λ (f : ℕ). CanMix c.args.self.now.spec.channels (ready_inputs f c.in-Some.message l.self.inputs)) (sym l.invariant.12)
    (subst (CanMix c.args.self.now.spec.channels) (sym (n.2.inputs c.args.self.now.frames l.self.inputs))
    (mixes_now c.args.self.now.spec.channels c.args.self.now.frames c.next.new.self.messages (inputs_with c.args.self.now.frames n.0 l.self.inputs) all.1)))

pub take-more-requires-clause-capacity : goal.take-more-requires-clause-capacity
take-more-requires-clause-capacity g c =
    let l = c.loop-message in
    let n = c.in-Some.ensures.value in
    subst (λ (f : ℕ). length l.out.notices + length (ready_notices f c.args.buffered c.in-Some.message l.self.inputs) ≤ l.out.capacity) (sym l.invariant.12)
    (take_fits c.args.self.now.frames c.args.buffered c.in-Some.message n.0 l.messages.messages c.next.new.self.messages l.self.inputs
    l.out.notices c.args.out.now.notices (all_message_notices c.args.self.now.frames c.args.buffered c.args.messages.now.messages c.args.self.now.inputs) l.out.capacity
    n.1 n.2 l.invariant.1 (omega (arith, l.invariant.5, c.requires.capacity)))

pub loop-message-preserved : goal.loop-message-preserved
loop-message-preserved g c =
    let l = c.loop-message in
    let n = c.in-Some.ensures.value in
    let mixed = c.args.self.now.frames in
    let buffered = c.args.buffered in
    let m = n.0 in
    let rest : List (Message Stream) = c.next.new.self.messages in
    let whole : sum_by blocks_of l.messages.messages ≡ blocks_of m + sum_by blocks_of rest =
    ap (λ (ms : List (Message Stream)). sum_by blocks_of ms) n.1 ∙ sum_by-cons blocks_of m rest in
    let inputs : c.take-more.new.self.inputs ≡ inputs_with mixed m l.self.inputs =
    c.take-more.ensures.inputs ∙ ap (λ (f : ℕ). ready_inputs f c.in-Some.message l.self.inputs) l.invariant.12 ∙ n.2.inputs mixed l.self.inputs in
    let noticed : c.take-more.new.out.notices ≡ l.out.notices ++ message_notices mixed buffered m l.self.inputs =
    c.take-more.ensures.notices ∙ ap (λ (f : ℕ). l.out.notices ++ ready_notices f buffered c.in-Some.message l.self.inputs) l.invariant.12 ∙ ap (λ (ns : List (Notice Stream)). l.out.notices ++ ns) (n.2.notices mixed buffered l.self.inputs) in
    let posted_cost : c.take-more.new.steps + c.args.self.now.spec.channels * (mixed - c.take-more.result.from) ≤ l.steps + c.args.self.now.spec.channels * cost_of mixed m l.self.inputs =
    subst (λ (x : ℕ). c.take-more.new.steps + c.args.self.now.spec.channels * (mixed - c.take-more.result.from) ≤ l.steps + c.args.self.now.spec.channels * x) (n.2.costs mixed l.self.inputs)
    (subst (λ (f : ℕ). c.take-more.new.steps + c.args.self.now.spec.channels * (f - c.take-more.result.from) ≤ l.steps + c.args.self.now.spec.channels * ready_cost f c.in-Some.message l.self.inputs) l.invariant.12
    (subst (λ (s : Spec). c.take-more.new.steps + s.channels * (l.self.frames - c.take-more.result.from) ≤ l.steps + s.channels * ready_cost l.self.frames c.in-Some.message l.self.inputs) l.invariant.10 c.take-more.ensures.ticks)) in (
      ap (λ (xs : List Stands). inputs_with_all mixed rest xs) inputs ∙ ap (λ (ms : List (Message Stream)). inputs_with_all mixed ms l.self.inputs) (sym n.1) ∙ l.invariant.0,
      ap (λ (ns : List (Notice Stream)). ns ++ all_message_notices mixed buffered rest c.take-more.new.self.inputs) noticed
          ∙ append_assoc l.out.notices (message_notices mixed buffered m l.self.inputs) (all_message_notices mixed buffered rest c.take-more.new.self.inputs)
          ∙ ap (λ (xs : List Stands). l.out.notices ++ (message_notices mixed buffered m l.self.inputs ++ all_message_notices mixed buffered rest xs)) inputs
          ∙ ap (λ (ms : List (Message Stream)). l.out.notices ++ all_message_notices mixed buffered ms l.self.inputs) (sym n.1)
          ∙ l.invariant.1,
      subst (λ (xs : List Stands). CanTakeAll mixed rest xs) (sym inputs) (subst (λ (ms : List (Message Stream)). CanTakeAll mixed ms l.self.inputs) n.1 l.invariant.2).1,
      omega (arith, ap (λ (ms : List (Message Stream)). length ms) n.1, l.invariant.3, c.take-more.ensures.room),
      omega (arith, c.take-more.ensures.less, c.next.ensures.room, l.invariant.4),
      c.take-more.ensures.capacity ∙ l.invariant.5,
      c.next.ensures.capacity ∙ l.invariant.6,
      omega (arith, whole, n.2.blocks, c.take-more.ensures.block_room, l.invariant.7),
      omega (arith, c.take-more.ensures.block_room, c.next.ensures.block_room, l.invariant.8),
      λ sink k less. c.take-more.ensures.unaltered sink k (omega (arith, less, c.with-altered.ensures.from)) ∙ l.invariant.9 sink k (omega (arith, less, c.with-altered.ensures.from)),
      c.take-more.ensures.spec ∙ l.invariant.10,
      c.take-more.ensures.depth ∙ l.invariant.11,
      c.take-more.ensures.frames ∙ l.invariant.12,
      subst (λ (xs : List Stands). CanMixAll c.args.self.now.spec.channels mixed rest xs) (sym inputs) (subst (λ (ms : List (Message Stream)). CanMixAll c.args.self.now.spec.channels mixed ms l.self.inputs) n.1 l.invariant.13).1,
      next_cost c.args.self.now.spec.channels mixed l.altered.from c.take-more.result.from c.with-altered.result.from (cost_of mixed m l.self.inputs) (costs_of mixed rest c.take-more.new.self.inputs)
          l.steps c.take-more.new.steps (c.args.steps.now + c.args.self.now.spec.channels * costs_of mixed c.args.messages.now.messages c.args.self.now.inputs) c.with-altered.ensures.from posted_cost
          (subst (λ (xs : List Stands). l.steps + c.args.self.now.spec.channels * (mixed - l.altered.from) + c.args.self.now.spec.channels * (cost_of mixed m l.self.inputs + costs_of mixed rest xs)
          ≤ c.args.steps.now + c.args.self.now.spec.channels * costs_of mixed c.args.messages.now.messages c.args.self.now.inputs) (sym inputs)
          (subst (λ (ms : List (Message Stream)). l.steps + c.args.self.now.spec.channels * (mixed - l.altered.from) + c.args.self.now.spec.channels * costs_of mixed ms l.self.inputs
          ≤ c.args.steps.now + c.args.self.now.spec.channels * costs_of mixed c.args.messages.now.messages c.args.self.now.inputs) n.1 l.invariant.14)),
      λ sink k past less. c.take-more.ensures.resumed sink k (omega (arith, past, c.with-altered.ensures.to)) (omega (arith, less, l.invariant.12)) ∙ l.invariant.15 sink k (omega (arith, past, c.with-altered.ensures.to)) less,
    )
