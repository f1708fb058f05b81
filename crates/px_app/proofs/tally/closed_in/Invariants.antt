use Rattle.std.proofs.Common.{◌≡◌, ◌≤◌, take}
use Rattle.std.specs.List.{count_by}
use Rattle.px_app.specs.Summary.{is_closed}
use Rattle.px_app.proofs.tally.closed_in.Given as goal

-- those so far are counted
abbrev pub invariant-loop-effect : goal.invariant-loop-effect
invariant-loop-effect l = record {
  counted : l.count ≡ count_by is_closed (take l.effect-index l.effects);
  few : l.count ≤ l.effect-index;
}
