use Rattle.std.proofs.Common.{◌∙◌, ap, sym, refl, arith}
use Rattle.std.proofs.lemmas.List.{take_all}
use Rattle.px_client.specs.declared.answer.Verdict.TheVariants.{Message, Reply, Refusal, Other}
use Rattle.px_client.specs.Dialogue.{Waiting, stage_from}
use Rattle.px_client.proofs.Scanned.{one_more, then_refused, then_astray}
use Rattle.px_client.proofs.hearing.scan.Goals as goal

pub returns-in-Reply : goal.returns-in-Reply
returns-in-Reply c = λ errand. (
  omega (arith, c.loop-i-test.true),
  one_more errand c.args.awaited c.args.frames.now c.loop-i.i c.index-frames-i.result c.loop-i-test.true (sym c.index-frames-i.is) (c.loop-i.invariant errand)
      (Reply c.in-Reply.inputs) (sym c.in_ok-judge_frame.ensures ∙ c.in-Reply.is),
)

pub returns-in-Refusal : goal.returns-in-Refusal
returns-in-Refusal c = λ errand.
    then_refused errand c.args.awaited c.args.frames.now c.loop-i.i c.index-frames-i.result c.loop-i-test.true (sym c.index-frames-i.is) (c.loop-i.invariant errand)
    (Refusal c.in-Refusal.code) (sym c.in_ok-judge_frame.ensures ∙ c.in-Refusal.is) c.in-Refusal.code refl

pub returns-in-Other : goal.returns-in-Other
returns-in-Other c = λ errand.
    then_astray errand c.args.awaited c.args.frames.now c.loop-i.i c.index-frames-i.result c.loop-i-test.true (sym c.index-frames-i.is) (c.loop-i.invariant errand)
    Other (sym c.in_ok-judge_frame.ensures ∙ c.in-Other.is) refl

pub loop-i-preserved : goal.loop-i-preserved
loop-i-preserved c = λ errand.
    one_more errand c.args.awaited c.args.frames.now c.loop-i.i c.index-frames-i.result c.loop-i-test.true (sym c.index-frames-i.is) (c.loop-i.invariant errand)
    Message (sym c.in_ok-judge_frame.ensures ∙ c.in-Message.is)

pub returns : goal.returns
returns c = λ errand. (
  refl,
  ap (stage_from errand (Waiting c.args.awaited)) (sym (take_all c.loop-i.i c.args.frames.now (omega (arith, c.loop-i-test.false)))) ∙ c.loop-i.invariant errand,
)
