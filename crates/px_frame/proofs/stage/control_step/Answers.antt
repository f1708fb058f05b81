use Rattle.std.proofs.Common.{◌++◌, ◌∙◌, ap, sym, subst, arith}
use Rattle.px_frame.specs.declared.frame.Body.TheVariants.{Control}
use Rattle.px_frame.specs.Descriptor.{descriptor_bytes}
use Rattle.px_frame.specs.Stage.{IsStep}
use Rattle.px_frame.proofs.FeedingLemmas.{payload-waiting, step-whole, body-control}
use Rattle.px_frame.proofs.stage.control_step.Goals as goal

pub returns-then-count-missing : goal.returns-then-count-missing
returns-then-count-missing c =
    let fed = payload-waiting c.args.descriptor c.args.start c.min-count.result c.args.missing c.args.bytes.items c.args.piece.now c.append.new.bytes.items
    (omega arith) c.requires.part.0 c.append.ensures.items (omega arith) c.if-count-missing.true in
    subst (IsStep c.args.start (descriptor_bytes c.args.descriptor ++ c.args.bytes.items) c.args.piece.now) (sym c.waiting.ensures)
    (fed.0, (fed.1, c.requires.part.1, omega (arith, c.append.ensures.room, c.requires.part.2, fed.1.whole, c.requires.part.0.whole)), omega (arith, c.requires.part.0.some), omega arith)

pub returns : goal.returns
returns c =
    step-whole c.args.descriptor c.args.start c.min-count.result c.args.missing c.args.bytes.items c.args.piece.now c.append.new.bytes.items (Control c.from_vec.result)
    c.whole.result c.requires.part.0 c.append.ensures.items (omega arith) (omega arith)
    (body-control c.args.descriptor c.append.new.bytes.items c.requires.part.1 ∙ ap Control (sym c.from_vec.ensures)) c.whole.ensures
