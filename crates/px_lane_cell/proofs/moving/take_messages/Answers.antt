use Rattle.std.proofs.Common.{true, List, [], ◌∷◌, length, length-append, ap, sym, ◌∙◌, subst, arith, Option}
use Rattle.px_sample.specs.declared.spec.Spec.{Spec}
use Rattle.px_model.specs.Stream.{Stream}
use Rattle.px_model.specs.Message.{Message}
use Rattle.px_lane.specs.Lists.{plain_message}
use Rattle.px_mail.specs.Mailbox.{key_of, taken_by, found_by}
use Rattle.px_lane_cell.specs.Moved.{AreTaken}
use Rattle.px_lane_cell.proofs.Moves.{fronts, one_taken, one_call}
use Rattle.px_lane_cell.proofs.moving.take_messages.Goals as goal

pub loop-pass-preserved : goal.loop-pass-preserved
loop-pass-preserved g c =
    let l = c.loop-pass in
    let took = c.in-Some.ensures.taken in
    let m = c.in-Some.message in
    let pushed = c.push.ensures.value in
    let longer = ap (λ (ms : List (Message Stream)). length ms) pushed in (
      c.take.ensures.pass.0,
      c.take.ensures.pass.1 ∙ l.invariant.1,
      subst (λ (key : Option Spec). AreTaken key (taken_by c.take.new.pass.pass)) (sym c.take.ensures.pass.1) (fronts (key_of l.pass.pass) (taken_by c.take.new.pass.pass) took.1.0 took.1.1),
      one_taken (taken_by c.args.pass.now.pass) (taken_by l.pass.pass) (taken_by c.take.new.pass.pass) c.args.messages.now.messages l.messages.messages c.push.new.self.messages m l.invariant.3 took.0 pushed,
      omega (arith, longer, length-append l.messages.messages (plain_message m ∷ []), c.loop-pass-test.true, c.len.ensures.count),
      c.push.ensures.capacity ∙ l.invariant.5,
      one_call (found_by c.args.pass.now.pass) (found_by l.pass.pass) (found_by c.take.new.pass.pass) true l.invariant.6 c.in-Some.ensures.found,
    )
