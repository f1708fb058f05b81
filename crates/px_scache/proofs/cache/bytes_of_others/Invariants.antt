use Rattle.std.proofs.Common.{◌≡◌, ◌+◌, ◌≤◌, drop}
use Rattle.px_scache.specs.Cache.{others, bytes_in}
use Rattle.px_scache.proofs.cache.bytes_of_others.Given as goal

abbrev pub invariant-loop-sample : goal.invariant-loop-sample
invariant-loop-sample l = record {
  is : l.bytes + bytes_in (others l.name (drop l.sample-index l.samples)) ≡ bytes_in (others l.name l.samples);
  few : l.bytes + bytes_in (drop l.sample-index l.samples) ≤ 67108864;
}
