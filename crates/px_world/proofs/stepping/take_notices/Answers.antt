use Rattle.std.proofs.Common.{◌≡◌, ◌<◌, ◌∷◌, ◌++◌, map, take, sym, ◌∙◌, arith}
use Rattle.px_model.specs.Stream.{Stream}
use Rattle.px_model.specs.Notice.{Notice}
use Rattle.px_msg.specs.View.{notice_for}
use Rattle.px_lane.specs.Lists.{plain_notice}
use Rattle.px_core.specs.Step.{notice, stepped_by, effects_by}
use Rattle.px_world.proofs.Going.{takes-next, takes-effects-next, drop-next, fewer}
use Rattle.px_world.proofs.stepping.take_notices.Goals as goal

pub loop-left-preserved : goal.loop-left-preserved
loop-left-preserved c =
    let more : 0 < c.loop-left.left = omega (arith, c.loop-left-test.true) in
    let all = c.loop-left.notices.notices in
    let rest = c.pop_front.new.self.notices in
    let first = plain_notice c.in-Some.notice in
    let front : all ≡ first ∷ rest = c.in-Some.ensures.value in
    record {
      core = takes-next Stream.spec (λ (n : Notice Stream). notice c.args.sink (notice_for n)) c.loop-left.core.state c.take_notice.new.core.state
          (stepped_by Stream.spec c.args.core.now.state (map (λ (n : Notice Stream). notice c.args.sink (notice_for n)) (take c.args.count c.args.notices.now.notices)))
          first rest all c.loop-left.left more front c.in_ok-take_notice.ensures.core c.loop-left.invariant.core;
      effects = takes-effects-next Stream.spec (λ (n : Notice Stream). notice c.args.sink (notice_for n)) c.loop-left.core.state c.take_notice.new.core.state first rest all c.loop-left.left
          c.loop-left.effects c.take_notice.new.effects
          (c.args.effects.now ++ effects_by Stream.spec c.args.core.now.state (map (λ (n : Notice Stream). notice c.args.sink (notice_for n)) (take c.args.count c.args.notices.now.notices)))
          more front c.in_ok-take_notice.ensures.core c.in_ok-take_notice.ensures.effects c.loop-left.invariant.effects;
      notices = sym (drop-next c.loop-left.left first rest all more front) ∙ c.loop-left.invariant.notices;
      few = fewer c.loop-left.left first rest all more c.loop-left.invariant.few front;
    }
