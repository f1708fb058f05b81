use Rattle.std.proofs.Common.{◌≡◌, ◌<◌, ◌^◌, drop}
use Rattle.px_ctl.specs.Number.{number_in, digits_behind}
use Rattle.px_ctl.proofs.digits.number.Given as goal

-- the digits so far gave the number, and those to come go on with it
abbrev pub invariant-loop-c : goal.invariant-loop-c
invariant-loop-c l = record {
  so_far : digits_behind l.n (drop l.c-index l.word) ≡ number_in l.word;
  fits : l.n < 2 ^ 64;
}
