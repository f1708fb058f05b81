-- Volumes that are divided and multiplied again.
use Rattle.std.proofs.Common.{◌≡◌, ℕ, ◌+◌, ◌*◌, ◌/◌, ◌%◌, ◌<◌, ◌≤◌, ap, ◌∙◌, arith, inl, inr, nat_eq, false}
use Rattle.std.proofs.Math.Nat.{mod-lt}
use Rattle.std.proofs.lemmas.Bool.{ne_eqb, cases_lt}
use Rattle.std.proofs.lemmas.Nat.{div-add-mod', div_below}
use Rattle.px_vol.specs.Volume.{norm, greatest, product_of, quotient_of}

-- so much volume at NORM is itself
pub product_of-norm : (a : ℕ) → a ≤ greatest → product_of a norm ≡ a
product_of-norm a small = omega arith

-- the quotient of a volume and a greater one is at most NORM
quotient_small : (a b : ℕ) → 0 < b → a ≤ b → (a * 65536 + b / 2) / b < 65537
quotient_small a b some less = div_below (a * 65536 + b / 2) b 65537 some (omega arith)

quotient_of-is : (a b : ℕ) → 0 < b → a ≤ b → quotient_of a b ≡ (a * 65536 + b / 2) / b
quotient_of-is a b some less =
    let below = quotient_small a b some less in
    let not_zero : nat_eq b 0 ≡ false = ne_eqb b 0 (λ zero_b. absurd (omega arith)) in
    rw not_zero (omega arith)

-- a quotient to the nearest, multiplied again, is nearest to what was divided
product_near : (a b quotient rest : ℕ) → quotient * b + rest ≡ a * 65536 + b / 2 → rest < b → a ≤ b → b < norm →
    product_of quotient b ≡ a
product_near a b quotient rest whole left less small = omega arith

undone_below : (a b : ℕ) → 0 < b → a ≤ b → b < norm → product_of (quotient_of a b) b ≡ a
undone_below a b some less small =
    ap (λ q. product_of q b) (quotient_of-is a b some less)
    ∙ product_near a b ((a * 65536 + b / 2) / b) ((a * 65536 + b / 2) % b)
    (div-add-mod' (a * 65536 + b / 2) b) (mod-lt (a * 65536 + b / 2) some) less small

-- dividing by a volume of at most NORM is undone by multiplying with it
pub quotient_undone : (a b : ℕ) → a ≤ b → b ≤ norm → product_of (quotient_of a b) b ≡ a
quotient_undone a b less small =
    elim (cases_lt 0 b) [
      | inl some ↦ elim (cases_lt b norm) [
        | inl below ↦ undone_below a b some less below
        | inr above ↦
            let is_norm : b ≡ norm = omega arith in
            rw is_norm (omega arith)
      ]
      | inr none ↦
          let zero_b : b ≡ 0 = omega arith in
          rw zero_b (omega arith)
    ]
