use Rattle.std.proofs.Common.{◌<◌, List, [], ◌∷◌, ◌++◌, map, take, replicate, length, length-append, sym, ap, ◌∙◌, arith}
use Rattle.px_model.specs.Stream.{Stream}
use Rattle.px_model.specs.Message.{Message}
use Rattle.px_lane.specs.Lists.{plain_message}
use Rattle.px_msg.specs.View.{message_of}
use Rattle.px_state.specs.Out.{waiting_for}
use Rattle.px_core.specs.Step.{out, stepped_by}
use Rattle.px_world.proofs.Going.{outs-next, messages-next, few-next}
use Rattle.px_world.proofs.stepping.take_messages.Goals as goal

pub loop-left-preserved : goal.loop-left-preserved
loop-left-preserved c =
    let more : 0 < c.loop-left.left = omega (arith, c.loop-left-test.true) in
    record {
      core = outs-next Stream.spec c.args.sink c.loop-left.core.state c.sent.new.self.state (stepped_by Stream.spec c.args.core.now.state (replicate c.args.count (out c.args.sink)))
          c.loop-left.left more (λ i. (c.sent.ensures.after i).state) c.loop-left.invariant.core;
      messages = messages-next (message_of (λ s. s)) c.args.sink c.loop-left.core.state c.sent.new.self.state c.in-Some.message c.loop-left.left
          c.loop-left.messages.messages c.push.new.self.messages (c.args.messages.now.messages ++ map (message_of (λ s. s)) (take c.args.count (waiting_for c.args.core.now.state c.args.sink)))
          more (λ i. (c.sent.ensures.after i).state) (sym c.in-Some.ensures.next)
          (c.push.ensures.value ∙ ap (λ m. c.loop-left.messages.messages ++ m ∷ []) c.taken_over.ensures)
          c.loop-left.invariant.messages;
      room = omega (arith, more, c.loop-left.invariant.room, c.push.ensures.capacity, ap (λ (ms : List (Message Stream)). length ms) c.push.ensures.value, length-append c.loop-left.messages.messages (plain_message c.taken_over.result ∷ []));
      few = few-next c.args.sink c.loop-left.core.state c.sent.new.self.state c.in-Some.message c.loop-left.left more (λ i. (c.sent.ensures.after i).state) (sym c.in-Some.ensures.next) c.loop-left.invariant.few;
    }
