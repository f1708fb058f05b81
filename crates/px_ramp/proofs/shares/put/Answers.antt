use Rattle.std.proofs.Common.{◌≡◌, ℕ, ◌*◌, ◌^◌, ◌<◌, List, length, ap, sym, ◌∙◌, subst, arith}
use Rattle.std.specs.Prelude.{slice_index, true}
use Rattle.px_kernel.specs.Kernel.{changed}
use Rattle.px_mixcache.specs.Cache.{kept_at, part_at, run_at, run_of}
use Rattle.px_mixcache.specs.Run.{AreValues}
use Rattle.px_kept_mix.proofs.Putting.{values_fit, little}
use Rattle.px_ramp.proofs.Sharing.{one_each}
use Rattle.px_ramp.proofs.shares.put.Goals as goal

pub change-requires-clause-whole : goal.change-requires-clause-whole
change-requires-clause-whole g c =
    let one = one_each (length c.args.values.now) (length c.args.cache.now.runs) c.requires.some c.requires.size in
    let whole : length c.args.cache.now.runs * 1 ≡ length c.args.cache.now.runs = omega arith in
    c.requires.size ∙ sym whole ∙ ap (λ (n : ℕ). length c.args.cache.now.runs * n) (sym one)

pub change-requires-clause-inside : goal.change-requires-clause-inside
change-requires-clause-inside g c =
    let one = one_each (length c.args.values.now) (length c.args.cache.now.runs) c.requires.some c.requires.size in
    omega (arith, one, c.requires.inside)

pub change-requires-clause-values : goal.change-requires-clause-values
change-requires-clause-values g c =
    let one = one_each (length c.args.values.now) (length c.args.cache.now.runs) c.requires.some c.requires.size in
    let whole : length c.args.values.now ≡ length c.args.cache.now.runs * 1 = omega (arith, c.requires.size) in
    subst (λ (n : ℕ). (i : ℕ) → i < length c.args.cache.now.runs → AreValues true (run_at c.args.cache.now.runs i).sums c.args.at (run_of n c.args.values.now i) (slice_index c.args.factors.now i)) (sym one)
    (values_fit c.args.cache.now c.args.values.now c.args.factors.now c.args.at 1
    whole (omega (arith, c.requires.inside)) c.requires.words c.requires.room
    (λ i fed. subst (λ (numbers : List ℕ). slice_index numbers i < 2 ^ 32) c.requires.same (omega (arith, c.type_inv.numbers i))) true)

pub returns-clause-sums : goal.returns-clause-sums
returns-clause-sums g c = λ i k fed less.
    let one = one_each (length c.args.values.now) (length c.args.cache.now.runs) c.requires.some c.requires.size in
    c.change.ensures.sums i k fed less
    ∙ ap (λ (n : ℕ). changed true (kept_at c.args.cache.now i k) (part_at c.args.at n c.args.values.now c.args.factors.now i k)) one

pub returns-clause-little : goal.returns-clause-little
returns-clause-little g c = λ i fed.
    let whole : length c.args.values.now ≡ length c.args.cache.now.runs * 1 = omega (arith, c.requires.size) in
    little c.args.cache.now c.args.values.now c.args.factors.now c.args.at 1
    whole (omega (arith, c.requires.inside)) c.requires.words c.requires.room
    (λ j here. subst (λ (numbers : List ℕ). slice_index numbers j < 2 ^ 32) c.requires.same (omega (arith, c.type_inv.numbers j))) i c.args.at fed
