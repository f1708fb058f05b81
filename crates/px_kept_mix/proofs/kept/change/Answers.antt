use Rattle.std.proofs.Common.{ℕ, ◌+◌, ◌*◌, ◌≤◌, List, length, ap, sym, ◌∙◌, subst, arith, ℤ, mul_comm}
use Rattle.std.proofs.Math.Nat.{mul-le-mul_left}
use Rattle.px_kernel.specs.Kernel.{changed}
use Rattle.px_mixcache.specs.Cache.{kept_at}
use Rattle.px_kept_mix.specs.Kept.{IsSumOf}
use Rattle.px_kept_mix.specs.Keeping.{share_in}
use Rattle.px_kept_mix.proofs.Putting.{all_taken, run_taken, whole_taken}
use Rattle.px_kept_mix.proofs.Reading.{part_taken, inside_both}
use Rattle.px_kept_mix.proofs.kept.change.Goals as goal

pub read-given-requires-clause-runs : goal.read-given-requires-clause-runs
read-given-requires-clause-runs g c =
    c.requires.size ∙ mul_comm c.args.sink.now.channels c.args.frames ∙ ap (λ (n : ℕ). c.args.frames * n) (sym c.requires.fed)

pub put-requires-clause-channels : goal.put-requires-clause-channels
put-requires-clause-channels g c = ap (λ (xs : List ℕ). length xs) c.factors.ensures.value ∙ c.factors.ensures.places ∙ c.requires.fed ∙ sym c.requires.channels

pub put-requires-clause-whole : goal.put-requires-clause-whole
put-requires-clause-whole g c =
    whole_taken c.read-given.new.values c.args.sink.now.channels c.read-given.result (length c.args.cache.now.runs) c.requires.channels c.requires.some
    (omega (arith, c.read-given.ensures.size, c.requires.size, mul-le-mul_left c.args.sink.now.channels c.read-given.ensures.few))

pub put-requires-clause-inside : goal.put-requires-clause-inside
put-requires-clause-inside g c =
    let run = run_taken c.read-given.new.values c.args.sink.now.channels c.read-given.result (length c.args.cache.now.runs) c.requires.channels c.requires.some
    (omega (arith, c.read-given.ensures.size, c.requires.size, mul-le-mul_left c.args.sink.now.channels c.read-given.ensures.few)) in
    omega (arith, run, c.read-given.ensures.few, c.requires.inside)

pub returns-clause-sums : goal.returns-clause-sums
returns-clause-sums g c = λ i k fed less.
    let run = run_taken c.read-given.new.values c.args.sink.now.channels c.read-given.result (length c.args.cache.now.runs) c.requires.channels c.requires.some
    (omega (arith, c.read-given.ensures.size, c.requires.size, mul-le-mul_left c.args.sink.now.channels c.read-given.ensures.few)) in
    c.put.ensures.sums i k fed less
    ∙ ap (λ (x : ℤ). changed c.args.add (kept_at c.args.cache.now i k) x)
    (part_taken c.args.sink.now c.args.stream.now.stream c.width.result c.width.ensures c.args.from c.args.frames c.read-given.result (c.args.sink.now.channels * c.read-given.result) c.read-given.new.values
    c.factors.result.now c.factors.ensures.value (ap (λ (n : ℕ). n * c.read-given.result) (sym c.requires.fed)) c.read-given.ensures.values c.read-given.ensures.end
    (length c.args.cache.now.runs) run c.read-given.ensures.few i k (omega (arith, fed, c.requires.channels, c.requires.fed)))

pub returns-clause-little : goal.returns-clause-little
returns-clause-little g c = λ i k fed high less.
    let run = run_taken c.read-given.new.values c.args.sink.now.channels c.read-given.result (length c.args.cache.now.runs) c.requires.channels c.requires.some
    (omega (arith, c.read-given.ensures.size, c.requires.size, mul-le-mul_left c.args.sink.now.channels c.read-given.ensures.few)) in
    subst (IsSumOf 1)
    (part_taken c.args.sink.now c.args.stream.now.stream c.width.result c.width.ensures c.args.from c.args.frames c.read-given.result (c.args.sink.now.channels * c.read-given.result) c.read-given.new.values
    c.factors.result.now c.factors.ensures.value (ap (λ (n : ℕ). n * c.read-given.result) (sym c.requires.fed)) c.read-given.ensures.values c.read-given.ensures.end
    (length c.args.cache.now.runs) run c.read-given.ensures.few i k (omega (arith, fed, c.requires.fed))
    ∙ inside_both c.args.from (c.args.from + c.args.frames) k (share_in c.args.sink.now c.args.stream.now.stream i k) high less)
    (c.put.ensures.little i k (omega (arith, fed, c.requires.channels)))

pub returns-clause-ticks : goal.returns-clause-ticks
returns-clause-ticks g c =
    let most : c.args.sink.now.channels * c.read-given.result ≤ c.args.sink.now.channels * c.args.frames = mul-le-mul_left c.args.sink.now.channels c.read-given.ensures.few in
    let taken = all_taken c.read-given.new.values c.args.sink.now.channels c.read-given.result (length c.args.cache.now.runs) c.requires.channels c.requires.some
    (omega (arith, c.read-given.ensures.size, c.requires.size, most)) in
    omega (arith, c.put.ensures.ticks, c.read-given.ensures.ticks, taken, most, ap (λ (n : ℕ). n * c.read-given.result) c.requires.fed)
