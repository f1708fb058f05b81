use Rattle.std.proofs.Common.{◌≡◌, ◌+◌, ◌*◌, ◌<◌, ◌≤◌, get_or, arith, ◌∙◌, pos, ⊎_elim, below_more}
use Rattle.std.proofs.Math.Nat.{add-mul, mul-le-mul_right}
use Rattle.std.proofs.lemmas.Bool.{cases_lt}
use Rattle.px_kept_mix.proofs.kept.silence_behind.Goals as goal

pub loop-c-preserved : goal.loop-c-preserved
loop-c-preserved c =
    let k = c.loop-c.c in
    let run = c.args.run in
    let given = c.args.given in
    let few = c.requires.few in
    let h = c.loop-c.invariant in
    let put = c.silence.ensures in
    record {
      before = λ b j there less. ⊎_elim
          (λ (past : k < b). let next : k + 1 ≤ b = omega (arith, past) in
          put.after (b * run + j) (omega (arith, mul-le-mul_right run next, add-mul k 1 run)) ∙ h.before b j there less)
          (λ (to : b ≤ k). put.before (b * run + j) (omega (arith, less, mul-le-mul_right run to)) ∙ h.before b j there less)
          (cases_lt k b);
      silent = λ b j below past within. below_more (λ a. get_or c.silence.new.values (a * run + j) (pos 0) ≡ pos 0) k
          (λ a less. let next : a + 1 ≤ k = omega (arith, less) in
          put.before (a * run + j) (omega (arith, within, mul-le-mul_right run next, add-mul a 1 run)) ∙ h.silent a j less past within)
          (put.silent (k * run + j) (omega (arith, past)) (omega (arith, within)))
          b below;
      fit = λ all. put.words (h.fit all);
    }
