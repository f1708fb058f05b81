use Rattle.std.proofs.Common.{◌≡◌, ◌-◌, ◌≤◌, length, ap, arith}
use Rattle.std.proofs.Math.Nat.{mul-le-mul}
use Rattle.px_mixcache.specs.Cache.{KeptSums}
use Rattle.px_kept_mix.proofs.kept.KeptMix.change_between.Goals as goal

pub change_spans-requires-clause-some : goal.change_spans-requires-clause-some
change_spans-requires-clause-some g c = omega (arith, c.self.invariant.3, c.requires.channels, ap (λ (v : KeptSums). length v.runs) c.self.view_is)

pub change_spans-requires-clause-size : goal.change_spans-requires-clause-size
change_spans-requires-clause-size g c =
    let runs : c.args.sink.now.channels ≤ length c.self.inside.cache.runs = omega (arith, c.requires.channels, ap (λ (v : KeptSums). length v.runs) c.self.view_is) in
    let few : c.args.to - c.args.from ≤ c.self.inside.cache.depth = omega (arith, c.requires.inside, c.self.invariant.1, ap (λ (v : KeptSums). v.frames) c.self.view_is) in
    omega (arith, c.self.invariant.4, mul-le-mul runs few)
