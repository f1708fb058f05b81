use Rattle.std.proofs.Common.{◌≡◌, ◌≤◌, take}
use Rattle.std.specs.List.{count_by}
use Rattle.px_app.specs.Summary.{is_sent}
use Rattle.px_app.proofs.tally.sent_in.Given as goal

-- those so far are counted
abbrev pub invariant-loop-effect : goal.invariant-loop-effect
invariant-loop-effect l = record {
  counted : l.count ≡ count_by is_sent (take l.effect-index l.effects);
  few : l.count ≤ l.effect-index;
}
