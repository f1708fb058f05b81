use Rattle.std.proofs.Common.{◌≡◌, ◌≤◌, ◌++◌, length, map, take, drop}
use Rattle.px_model.specs.Stream.{Stream}
use Rattle.px_model.specs.Notice.{Notice}
use Rattle.px_msg.specs.View.{notice_for}
use Rattle.px_core.specs.Step.{notice, stepped_by, effects_by}
use Rattle.px_world.proofs.stepping.take_notices.Given as goal

-- the notices so far and those that are left are all of them
abbrev pub invariant-loop-left : goal.invariant-loop-left
invariant-loop-left l = record {
  core : stepped_by Stream.spec l.core.state (map (λ (n : Notice Stream). notice l.sink (notice_for n)) (take l.left l.notices.notices))
      ≡ stepped_by Stream.spec l.fn.core.state (map (λ (n : Notice Stream). notice l.sink (notice_for n)) (take l.fn.count l.fn.notices.notices));
  effects : l.effects ++ effects_by Stream.spec l.core.state (map (λ (n : Notice Stream). notice l.sink (notice_for n)) (take l.left l.notices.notices))
      ≡ l.fn.effects ++ effects_by Stream.spec l.fn.core.state (map (λ (n : Notice Stream). notice l.sink (notice_for n)) (take l.fn.count l.fn.notices.notices));
  notices : drop l.left l.notices.notices ≡ drop l.fn.count l.fn.notices.notices;
  few : l.left ≤ length l.notices.notices;
}

abbrev pub decreases-loop-left : goal.decreases-loop-left
decreases-loop-left l = l.left
