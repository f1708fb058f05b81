use Rattle.std.proofs.Common.{List, sym, subst, drop, append-nil, arith}
use Rattle.px_frame.specs.declared.frame.Frame.{Frame}
use Rattle.px_frame.specs.declared.stage.Step.TheVariants.{On, Broken}
use Rattle.px_frame.specs.Stage.{IsStep, held_of}
use Rattle.px_frame.specs.Feeding.{Feeds, Breaks}
use Rattle.px_frame.proofs.DecoderLemmas.{feeds-none, feeds-feeds, feeds-breaks, feeds-left}
use Rattle.px_frame.proofs.FeedingLemmas.{part-begun}
use Rattle.px_frame.proofs.decoder.take_piece.Goals as goal

pub loop-rest-init : goal.loop-rest-init
loop-rest-init g c = record {
  fed = rw c.new-frames.ensures (feeds-none c.args.start (held_of c.args.part) c.args.piece.now (omega arith) (part-begun c.args.part c.requires));
  part = c.requires;
}

pub loop-rest-preserved : goal.loop-rest-preserved
loop-rest-preserved g c =
    let stepped : IsStep c.loop-rest.start (held_of c.loop-rest.part) c.loop-rest.rest.now (On c.in-On.next c.in-On.from c.in-On.taken c.in-On.frame) =
    subst (IsStep c.loop-rest.start (held_of c.loop-rest.part) c.loop-rest.rest.now) c.in-On.is c.in_ok-next.ensures in
    let fed = feeds-feeds c.loop-rest.invariant.fed stepped.0 in
    record {
      fed = feeds-left c.loop-rest.rest.now c.in-On.taken (subst (λ (f : List Frame). Feeds c.args.start (held_of c.args.part) c.args.piece.now f c.in-On.from (held_of c.in-On.next) (drop c.in-On.taken c.loop-rest.rest.now)) (sym c.in_ok-add-in-On.ensures) fed);
      part = stepped.1;
    }

pub returns-in-Broken : goal.returns-in-Broken
returns-in-Broken g c =
    let stepped : IsStep c.loop-rest.start (held_of c.loop-rest.part) c.loop-rest.rest.now (Broken c.in-Broken.fault c.in-Broken.at) =
    subst (IsStep c.loop-rest.start (held_of c.loop-rest.part) c.loop-rest.rest.now) c.in-Broken.is c.in_ok-next.ensures in
    subst (λ (f : List Frame). Breaks c.args.start (held_of c.args.part) c.args.piece.now f c.in-Broken.fault c.in-Broken.at) (append-nil c.loop-rest.frames)
    (feeds-breaks c.loop-rest.invariant.fed stepped)
