-- Lanes that are clipped.
use Rattle.std.proofs.Common.{rules, min, ◌-ℤ◌, w32, ◌≡◌, ℕ, ◌^◌, ◌<◌, Bool, true, false, arith, ◌∙◌, ap, sym, refl, subst, ℤ, pos, negsuc, FitsSigned, w64, to_z, of_z}
use Rattle.std.proofs.Math.Bool.{cond}
use Rattle.std.proofs.Math.Dec.{ltb}
use Rattle.std.proofs.Math.Nat.{min-eq_left, min-eq_right}
use Rattle.std.proofs.lemmas.Bool.{ltb-true, ltb-false}
use Rattle.px_kernel.specs.Clip.{clipped}
use Rattle.std.specs.Simd.Lanes.{top}
use Rattle.std.specs.Int.Signed.{lt_z}
use Rattle.std.proofs.lemmas.Int.{ints, to_z-of_z}

-- a lane that is all ones or none
abbrev pub mask : Bool → ℕ
mask b = cond b 18446744073709551615 0

-- the one of two words that a mask says
abbrev pub picked : Bool → ℕ → ℕ → ℕ
picked b x y = cond (top 63 (mask b)) x y

-- a number brought between two
abbrev pub clamped : ℤ → ℤ → ℤ → ℤ
clamped low high z = cond (lt_z (cond (lt_z z low) low z) high) (cond (lt_z z low) low z) high

-- the machine word of that, by the words of the two
abbrev pub lane_clamped : ℕ → ℕ → ℤ → ℕ
lane_clamped low high z =
    picked (lt_z (to_z w64 (picked (lt_z (to_z w64 (of_z w64 z)) (to_z w64 low)) low (of_z w64 z))) (to_z w64 high))
    (picked (lt_z (to_z w64 (of_z w64 z)) (to_z w64 low)) low (of_z w64 z))
    high

module _ (lw hw : ℕ) (low high z : ℤ) (low_read : to_z w64 lw ≡ low) (high_read : to_z w64 hw ≡ high) (fits : FitsSigned w64 z) where
  first : (b : Bool) → to_z w64 (picked b lw (of_z w64 z)) ≡ cond b low z
  first true = low_read
  first false = to_z-of_z w64 z fits

  second : (b c : Bool) → to_z w64 (picked c (picked b lw (of_z w64 z)) hw) ≡ cond c (cond b low z) high
  second b true = first b
  second b false = high_read

  pub lane_clamped_is : to_z w64 (lane_clamped lw hw z) ≡ clamped low high z
  lane_clamped_is =
      let b = lt_z (to_z w64 (of_z w64 z)) (to_z w64 lw) in
      let same : b ≡ lt_z z low = ap (λ (x : ℤ). lt_z x (to_z w64 lw)) (to_z-of_z w64 z fits) ∙ ap (λ (x : ℤ). lt_z z x) low_read in
      let c = lt_z (to_z w64 (picked b lw (of_z w64 z))) (to_z w64 hw) in
      let also : c ≡ lt_z (cond (lt_z z low) low z) high =
      ap (λ (x : ℤ). lt_z x (to_z w64 hw)) (first b ∙ ap (λ (a : Bool). cond a low z) same)
      ∙ ap (λ (x : ℤ). lt_z (cond (lt_z z low) low z) x) high_read in
      second b c ∙ ap (λ (a : Bool). cond a (cond b low z) high) also ∙ ap (λ (a : Bool). cond (lt_z (cond (lt_z z low) low z) high) (cond a low z) high) same

-- ---- that is clipping it

below : (n m : ℕ) (b : Bool) → ltb n m ≡ b → cond b (pos n) (pos m) ≡ pos (min n m)
below n m true less = ap pos (sym (min-eq_left (omega (arith, ltb-true n m less))))
below n m false more = ap pos (sym (min-eq_right (ltb-false n m more)))

above : (n m : ℕ) (b : Bool) → ltb m n ≡ b → cond (lt_z (cond b (negsuc m) (negsuc n)) (pos m)) (cond b (negsuc m) (negsuc n)) (pos m) ≡ negsuc (min n m)
above n m true less = ap negsuc (sym (min-eq_right (omega (arith, ltb-true m n less))))
above n m false more = ap negsuc (sym (min-eq_left (ltb-false m n more)))

pub clamped_is : (m : ℕ) (z : ℤ) → clamped (negsuc m) (pos m) z ≡ clipped m z
clamped_is m (pos n) = below n m (ltb n m) refl
clamped_is m (negsuc n) = above n m (ltb m n) refl

-- ---- in lanes of 64 bits, and of 32 behind them

-- the word of the least value
abbrev pub least : ℕ → ℕ
least most = of_z w64 (negsuc 0 -ℤ to_z w64 most)

most_read : (most : ℕ) → most < 2 ^ 31 → to_z w64 most ≡ pos most
most_read most small = search (rules, small)

least_read : (most : ℕ) → most < 2 ^ 31 → to_z w64 (least most) ≡ negsuc most
least_read most small = ap (λ (x : ℤ). to_z w64 (of_z w64 (negsuc 0 -ℤ x))) (most_read most small) ∙ ap (λ (x : ℤ). to_z w64 (of_z w64 x)) (below_zero most)
    ∙ to_z-of_z w64 (negsuc most) (record { sfits = omega (arith, small) }) where
      below_zero : (n : ℕ) → negsuc 0 -ℤ pos n ≡ negsuc n
      below_zero n = omega (arith, ints)

pub clipped_fits : (most : ℕ) (z : ℤ) → most < 2 ^ 31 → FitsSigned w32 (clipped most z)
clipped_fits most (pos n) small = record { sfits = omega (arith, small) }
clipped_fits most (negsuc n) small = record { sfits = omega (arith, small) }

module _ (most : ℕ) (z : ℤ) (small : most < 2 ^ 31) (fits : FitsSigned w64 z) where
  pub lane_is : to_z w64 (lane_clamped (least most) most z) ≡ clipped most z
  lane_is = lane_clamped_is (least most) most (negsuc most) (pos most) z (least_read most small) (most_read most small) fits ∙ clamped_is most z

  pub lane_fits : FitsSigned w32 (to_z w64 (lane_clamped (least most) most z))
  lane_fits = subst (FitsSigned w32) (sym lane_is) (clipped_fits most z small)

  pub lane_read : to_z w32 (of_z w32 (to_z w64 (lane_clamped (least most) most z))) ≡ clipped most z
  lane_read = to_z-of_z w32 (to_z w64 (lane_clamped (least most) most z)) lane_fits ∙ lane_is
