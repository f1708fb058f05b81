use Rattle.std.proofs.Common.{◌≤◌, ◌++◌, sym, subst, arith, length, length-take}
use Rattle.px_frame.specs.Descriptor.{descriptor_bytes}
use Rattle.px_frame.specs.Stage.{IsStep}
use Rattle.px_frame.proofs.FeedingLemmas.{payload-waiting, step-whole, front-of_front}
use Rattle.px_frame.proofs.stage.write_step.Goals as goal

pub returns-then-count-missing : goal.returns-then-count-missing
returns-then-count-missing g c =
    let put = front-of_front c.args.bytes c.put.new.self c.args.piece.now c.in_ok-count.count c.min-most.result _ c.in_ok-count.ensures.count c.in_ok-count.ensures.bytes in
    let some : c.in_ok-count.count ≤ length c.args.piece.now = omega (arith, c.in_ok-count.ensures.count, length-take c.min-most.result c.args.piece.now) in
    let fed = payload-waiting c.args.descriptor c.args.start c.in_ok-count.count c.args.missing c.args.bytes c.args.piece.now c.put.new.self
    (omega arith) c.requires.part.0 put some c.if-count-missing.true in
    subst (IsStep c.args.start (descriptor_bytes c.args.descriptor ++ c.args.bytes) c.args.piece.now) (sym c.waiting.ensures)
    (fed.0, (fed.1, c.requires.part.1), omega (arith, c.in_ok-count.ensures.count, c.requires.part.0.some, length-take c.min-most.result c.args.piece.now), some)

pub returns : goal.returns
returns g c =
    let put = front-of_front c.args.bytes c.put.new.self c.args.piece.now c.in_ok-count.count c.min-most.result _ c.in_ok-count.ensures.count c.in_ok-count.ensures.bytes in
    let most : c.in_ok-count.count ≤ c.min-most.result = omega (arith, c.in_ok-count.ensures.count, length-take c.min-most.result c.args.piece.now) in
    step-whole c.args.descriptor c.args.start c.in_ok-count.count c.args.missing c.args.bytes c.args.piece.now c.put.new.self c.write_body-body.result
    c.whole.result c.requires.part.0 put (omega arith) (omega arith)
    (sym c.write_body-body.ensures) c.whole.ensures
