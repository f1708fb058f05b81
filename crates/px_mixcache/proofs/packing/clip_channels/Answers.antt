use Rattle.std.proofs.Common.{◌≡◌, ◌≢◌, ℕ, ◌+◌, ◌-◌, ◌*◌, ◌%◌, ◌<◌, ◌≤◌, List, length, take, drop, get_or, arith, ap, sym, ◌∙◌, ℤ, pos, below_more}
use Rattle.std.specs.Int.{saturate_signed}
use Rattle.std.proofs.lemmas.Nat.{mod-mul-add}
use Rattle.std.proofs.lemmas.List.{get_or-take, get_or-drop}
use Rattle.px_kernel.specs.Kernel.{at, bits_of}
use Rattle.px_mixcache.specs.Run.{KeptRun}
use Rattle.px_mixcache.specs.Cache.{run_at}
use Rattle.px_mixcache.proofs.Each.{there, next_part}
use Rattle.px_mixcache.proofs.Part.{mid_size}
use Rattle.px_mixcache.proofs.packing.clip_channels.Goals as goal

pub loop-c-preserved : goal.loop-c-preserved
loop-c-preserved g c =
    let i = c.loop-c.c in
    let channels = length c.args.runs.now in
    let from = c.args.from in
    let count = c.args.count in
    let read : c.sums.result.now ≡ (run_at c.args.runs.now i).sums =
    c.sums.ensures.sums ∙ ap (λ (r : KeptRun). r.sums) (c.index-runs-c.is ∙ there c.args.runs.now i c.index-runs-c.result c.loop-c-test.true) in
    let inside : from + count ≤ length c.sums.result.now =
    omega (arith, ap (λ (xs : List ℤ). length xs) read, c.requires.inside i c.loop-c-test.true) in
    let size : length (take (from + count - from) (drop from c.sums.result.now)) ≡ count = mid_size from count c.sums.result.now inside in
    let long : length c.clip_pack.new.out ≡ count = c.clip_pack.ensures.long ∙ c.loop-c.auto.clipped ∙ c.requires.clipped in
    let clipped : (j : ℕ) → j < count → get_or c.put_channel.new.values (j * channels + i) (pos 0) ≡ saturate_signed (bits_of c.args.width) (at (run_at c.args.runs.now i).sums (from + j)) =
    λ j less.
    c.put_channel.ensures.values j (omega (arith, long, less))
    ∙ c.clip_pack.ensures.values j (omega (arith, size, less))
    ∙ ap (saturate_signed (bits_of c.args.width))
    (get_or-take (from + count - from) (drop from c.sums.result.now) j (pos 0) (omega (arith, less)) ∙ get_or-drop from c.sums.result.now j (pos 0)
    ∙ ap (λ (xs : List ℤ). get_or xs (from + j) (pos 0)) read) in
    record {
      done = λ k j less few. below_more (λ n. n < channels → get_or c.put_channel.new.values (j * channels + n) (pos 0) ≡ saturate_signed (bits_of c.args.width) (at (run_at c.args.runs.now n).sums (from + j))) i
          (λ n below inside'. let away : (j * channels + n) % channels ≢ i = λ e. (let same : n ≡ i = sym (mod-mul-add j channels n inside') ∙ e in omega (arith, same, below)) in
          c.put_channel.ensures.others (j * channels + n) away ∙ c.loop-c.invariant.done n j below few)
          (λ _. clipped j few) k less (omega (arith, less, c.loop-c-test.true));
      within = λ n less. c.put_channel.ensures.within n (omega (arith, less, c.put_channel.ensures.long));
      ticks = next_part c.args.steps.now c.loop-c.steps c.clip_pack.new.steps i count _ c.loop-c.invariant.ticks c.clip_pack.ensures.ticks size;
    }
