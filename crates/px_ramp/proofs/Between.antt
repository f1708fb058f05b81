-- A number on the way between two others, in natural numbers.
use Rattle.std.proofs.Common.{◌≡◌, ℕ, zero, suc, ◌+◌, ◌-◌, ◌*◌, ◌/◌, ◌<◌, ◌≤◌, ap, sym, ◌∙◌, arith, ℤ, pos, negsuc, ◌+ℤ◌, ◌-ℤ◌}
use Rattle.std.specs.Prelude.{◌*ℤ◌, unsigned_abs, neg_ℤ}
use Rattle.std.specs.Int.{int_div_euclid}
use Rattle.std.proofs.lemmas.Int.{ints}
use Rattle.std.proofs.Math.IntN.{pos-*ℤ-pos, negsuc-*ℤ-pos}
use Rattle.std.proofs.Math.Nat.{add-div_right, div-lt_iff_lt-mul, zero-div, div-eq_of_lt, mul-le-mul_left, add-mul}

-- the difference times the way
rise_is : (from to w : ℕ) → from ≤ to → (pos to -ℤ pos from) *ℤ pos w ≡ pos ((to - from) * w)
rise_is from to w up =
    let more : pos to -ℤ pos from ≡ pos (to - from) = omega (arith, ints, up) in
    ap (λ (z : ℤ). z *ℤ pos w) more ∙ pos-*ℤ-pos (to - from) w

fall_is : (from to w : ℕ) → to < from → (pos to -ℤ pos from) *ℤ pos w ≡ neg_ℤ (pos ((from - to) * w))
fall_is from to w down =
    let one : suc (from - to - 1) ≡ from - to = omega (arith, down) in
    let less : pos to -ℤ pos from ≡ negsuc (from - to - 1) = omega (arith, ints, down) in
    ap (λ (z : ℤ). z *ℤ pos w) less ∙ negsuc-*ℤ-pos (from - to - 1) w ∙ ap (λ (m : ℕ). neg_ℤ (pos (m * w))) one

-- it is at most the difference
pub part_within : (d w n more : ℕ) → w ≤ n → more < n → (d * w + more) / n ≤ d
part_within d w n more few less =
    let below : (d * w + more) / n < d + 1 = (div-lt_iff_lt-mul (omega (arith, less))).1 (omega (arith, less, mul-le-mul_left d few, add-mul d 1 n)) in
    omega (arith, below)

pub risen : (from to w n : ℕ) → from ≤ to → from + ((to - from) * w + 0) / n ≡ unsigned_abs (pos from +ℤ int_div_euclid ((pos to -ℤ pos from) *ℤ pos w) (pos n))
risen from to w n up =
    let none : (to - from) * w + 0 ≡ (to - from) * w = omega arith in
    ap (λ (m : ℕ). from + m / n) none
    ∙ sym (ap (λ (z : ℤ). unsigned_abs (pos from +ℤ int_div_euclid z (pos n))) (rise_is from to w up) ∙ ap unsigned_abs (summed from ((to - from) * w / n)))
  where
    summed : (a b : ℕ) → pos a +ℤ pos b ≡ pos (a + b)
    summed a b = omega (arith, ints)

-- a negative number over n, rounded down
fallen_by : (from x n : ℕ) → 1 ≤ n → (x + (n - 1)) / n ≤ from → from - (x + (n - 1)) / n ≡ unsigned_abs (pos from +ℤ int_div_euclid (neg_ℤ (pos x)) (pos n))
fallen_by from zero n some few =
    let none : (0 + (n - 1)) / n ≡ 0 = div-eq_of_lt (omega (arith, some)) in
    ap (λ (m : ℕ). from - m) none ∙ sym (ap (λ (m : ℕ). unsigned_abs (pos from +ℤ pos m)) (zero-div n) ∙ ap unsigned_abs (alone from))
  where
    alone : (a : ℕ) → pos a +ℤ pos 0 ≡ pos (a - 0)
    alone a = omega (arith, ints)
fallen_by from (suc m) n some few =
    let moved : suc m + (n - 1) ≡ m + n = omega (arith, some) in
    let one : (suc m + (n - 1)) / n ≡ m / n + 1 = ap (λ (k : ℕ). k / n) moved ∙ add-div_right m some in
    let less : m / n + 1 ≤ from = omega (arith, few, one) in
    ap (λ (k : ℕ). from - k) one ∙ sym (ap unsigned_abs (taken from (m / n) less))
  where
    taken : (a b : ℕ) → b + 1 ≤ a → pos a +ℤ negsuc b ≡ pos (a - (b + 1))
    taken a b h = omega (arith, ints, h)

pub fallen : (from to w n : ℕ) → to < from → 1 ≤ n → w ≤ n → from - ((from - to) * w + (n - 1)) / n ≡ unsigned_abs (pos from +ℤ int_div_euclid ((pos to -ℤ pos from) *ℤ pos w) (pos n))
fallen from to w n down some few =
    fallen_by from ((from - to) * w) n some (omega (arith, part_within (from - to) w n (n - 1) few (omega (arith, some))))
    ∙ sym (ap (λ (z : ℤ). unsigned_abs (pos from +ℤ int_div_euclid z (pos n))) (fall_is from to w down))
