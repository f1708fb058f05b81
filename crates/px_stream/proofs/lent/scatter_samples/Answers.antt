use Rattle.std.proofs.Common.{◌≡◌, ◌+◌, ◌*◌, ◌<◌, ◌≤◌, get_or, arith, ◌∙◌, pos, ⊎_elim, below_more}
use Rattle.std.specs.Prelude.{slice_index}
use Rattle.std.proofs.Math.Nat.{add-mul, mul-le-mul_right}
use Rattle.std.proofs.lemmas.Bool.{cases_lt}
use Rattle.px_stream.specs.Lent.{sample_at}
use Rattle.px_stream.proofs.lent.scatter_samples.Goals as goal

pub loop-c-preserved : goal.loop-c-preserved
loop-c-preserved c =
    let k = c.loop-c.c in
    let run = c.args.run in
    let place = c.args.place in
    let frames = c.args.frames in
    let inside = c.requires.inside in
    let h = c.loop-c.invariant in
    let put = c.put_samples.ensures in
    let new = c.put_samples.new.out in
    record {
      values = λ b j below few. below_more (λ a. get_or new (a * run + place + j) (pos 0) ≡ sample_at c.args.bytes.now (j * c.args.channels + slice_index c.args.feed.now a)) k
          (λ a less. let next : a + 1 ≤ k = omega (arith, less) in
          put.before (a * run + place + j) (omega (arith, inside, few, mul-le-mul_right run next, add-mul a 1 run)) ∙ h.values a j less few)
          (put.values j few)
          b below;
      before = λ b i there less. ⊎_elim
          (λ (past : k < b). let next : k + 1 ≤ b = omega (arith, past) in
          put.after (b * run + i) (omega (arith, inside, mul-le-mul_right run next, add-mul k 1 run)) ∙ h.before b i there less)
          (λ (to : b ≤ k). put.before (b * run + i) (omega (arith, less, mul-le-mul_right run to)) ∙ h.before b i there less)
          (cases_lt k b);
      after = λ b i there past within. ⊎_elim
          (λ (earlier : b < k). let next : b + 1 ≤ k = omega (arith, earlier) in
          put.before (b * run + i) (omega (arith, within, mul-le-mul_right run next, add-mul b 1 run)) ∙ h.after b i there past within)
          (λ (from : k ≤ b). put.after (b * run + i) (omega (arith, past, mul-le-mul_right run from)) ∙ h.after b i there past within)
          (cases_lt b k);
      fit = λ all. put.fit (h.fit all);
    }
