use Rattle.std.proofs.Common.{◌≡◌, List, drop}
use Rattle.px_sieve.specs.Sieve.{Heard, seen_all}
use Rattle.px_sieve.specs.Standing.{AreHeard, ArePossible, left_in}
use Rattle.px_sieve.proofs.sieve.see_all.Given as goal

-- what was seen so far, and what is left to be seen, are all of the effects
abbrev pub invariant-loop-effect : goal.invariant-loop-effect
invariant-loop-effect l = record {
  heard : (heard : List Heard) → AreHeard l.fn.lines heard
      → (now : List Heard) × AreHeard l.lines now × (seen_all l.asked (drop l.effect-index l.effects) now ≡ seen_all l.asked l.effects heard);
  possible : ArePossible l.lines;
  left : left_in l.lines ≡ left_in l.fn.lines;
}
