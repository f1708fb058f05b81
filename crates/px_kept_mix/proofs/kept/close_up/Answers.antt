use Rattle.std.proofs.Common.{◌≡◌, ◌+◌, ◌-◌, ◌*◌, ◌<◌, ◌≤◌, get_or, ap, subst, sym, arith, mul_comm, ◌∙◌, pos, ⊎_elim, ℕ, length}
use Rattle.std.proofs.Math.Nat.{add-mul, mul-le-mul_left, mul-le-mul_right}
use Rattle.std.proofs.lemmas.Bool.{cases_lt}
use Rattle.px_kept_mix.proofs.Moving.{words_moved}
use Rattle.px_kept_mix.proofs.kept.close_up.Goals as goal

pub loop-c-preserved : goal.loop-c-preserved
loop-c-preserved c =
    let k = c.loop-c.c in
    let run = c.args.run in
    let given = c.args.given in
    let few = c.requires.few in
    let h = c.loop-c.invariant in
    let copied = c.copy_within.ensures.by_index.0 in
    let below = c.copy_within.ensures.by_index.1 in
    let behind = c.copy_within.ensures.by_index.2 in
    let shorter : k * given ≤ k * run = mul-le-mul_left k few in
    let next : k + 1 ≤ c.args.runs = omega (arith, c.loop-c-test.true) in
    let inside : k * run + (k * run + given - k * run) ≤ length c.loop-c.values =
    omega (arith, few, c.loop-c.auto.values, c.requires.runs, mul-le-mul_right run next, add-mul k 1 run, mul_comm run c.args.runs) in
    record {
      moved = λ b j there less. ⊎_elim
          (λ (earlier : b < k). let next : b + 1 ≤ k = omega (arith, earlier) in
          below (b * given + j) (pos 0) (omega (arith, less, mul-le-mul_right given next, add-mul b 1 given)) ∙ h.moved b j earlier less)
          (λ (last : k ≤ b). let is : b ≡ k = omega (arith, last, there) in
          subst (λ (n : ℕ). get_or c.copy_within.new.self (n * given + j) (pos 0) ≡ get_or c.args.values.now (n * run + j) (pos 0)) (sym is)
          (copied (k * given + j) (pos 0) (omega arith) (omega (arith, less))
          ∙ ap (λ (i : ℕ). get_or c.loop-c.values i (pos 0)) (omega arith)
          ∙ h.rest (k * run + j) (omega (arith, shorter))))
          (cases_lt b k);
      rest = λ i past. behind i (pos 0) (omega (arith, past, add-mul k 1 given)) ∙ h.rest i (omega (arith, past, add-mul k 1 given));
      fit = λ all. words_moved c.loop-c.values c.copy_within.new.self (k * run) (k * given) (k * run + given - k * run) c.copy_within.ensures.len inside copied below behind (h.fit all);
    }
