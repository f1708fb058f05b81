use Rattle.std.proofs.Common.{◌+◌, ◌+ℤ◌, ℤ, ap, ◌∙◌, arith}
use Rattle.px_mixcache.specs.Cache.{kept_at}
use Rattle.px_kept_mix.specs.Keeping.{share_in}
use Rattle.px_kept_mix.proofs.Reading.{inside_both}
use Rattle.px_ramp.proofs.shares.add_flat.Goals as goal

pub change_over-requires-clause-room : goal.change_over-requires-clause-room
change_over-requires-clause-room g c = λ i k fed high less. c.requires.room i k fed less

pub returns-clause-sums : goal.returns-clause-sums
returns-clause-sums g c = λ i k fed less.
    c.change_over.ensures.sums i k (omega (arith, fed, c.requires.channels)) (omega (arith, less, c.requires.whole))
    ∙ ap (λ (z : ℤ). kept_at c.args.cache.now i k +ℤ z) (inside_both 0 (0 + c.args.count) k (share_in c.args.sink.now c.args.stream.now.stream i k) (omega arith) (omega (arith, less)))

pub returns-clause-little : goal.returns-clause-little
returns-clause-little g c = λ i k fed less. c.change_over.ensures.little i k fed (omega arith) (omega (arith, less))
