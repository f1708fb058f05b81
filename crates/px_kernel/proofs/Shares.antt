-- Shares of values, as machine words have them.
use Rattle.std.proofs.Common.{rules, lit<, map, get_or, zero, suc, ◌≡◌, ℕ, ◌-◌, ◌^◌, ◌<◌, ◌≤◌, Bool, arith, ◌∙◌, ap, sym, refl, subst, ℤ, pos, negsuc, List, [], ◌∷◌, ◌*ℤ◌, FitsSigned, w32, w64, to_z, of_z}
use Rattle.std.specs.Int.Signed.{shr_z, mag, mag_shr}
use Rattle.std.specs.Int.{int_div_euclid}
use Rattle.std.proofs.lemmas.Int.{to_z-of_z, fits_signed_mul}
use Rattle.px_kernel.specs.Kernel.{changed, scaled}
use Rattle.std.specs.Simd.Lanes.{Each1}
use Rattle.std.specs.Int.RustNames.{unsigned_abs}

-- a shift by 16 bits is that division
pub shifted : (x : ℤ) → shr_z x 65536 ≡ int_div_euclid x (pos 65536)
shifted (pos n) = refl
shifted (negsuc n) = refl

-- a factor is read as it is
pub factor_as_is : (factor : ℕ) → factor < 2 ^ 31 → to_z w32 factor ≡ pos factor
factor_as_is factor small = search (rules, small)

pub wide_factor_as_is : (factor : ℕ) → factor < 2 ^ 32 → to_z w64 factor ≡ pos factor
wide_factor_as_is factor small = search (rules, small)

abs_of : (h : ℕ) (value : ℤ) → mag value < h → unsigned_abs value ≤ h
abs_of h (pos n) below = omega (arith, below)
abs_of h (negsuc n) below = below

-- a value times a factor fits
pub product_fits : (value : ℤ) (factor : ℕ) → FitsSigned w32 value → factor < 2 ^ 32 → FitsSigned w64 (value *ℤ pos factor)
product_fits value factor fits small =
    let less : factor ≤ 2 ^ 32 - 1 = omega (arith, small) in
    fits_signed_mul w64 value (pos factor) (2 ^ 31) (2 ^ 32 - 1) (abs_of (2 ^ 31) value fits.sfits) less (lit< tt)

shift_fits : (z : ℤ) → FitsSigned w64 z → FitsSigned w64 (shr_z z 65536)
shift_fits z fits = record { sfits = omega (arith, mag_shr z 65536, fits.sfits) }

-- a share fits
pub share_fits : (value : ℤ) (factor : ℕ) → FitsSigned w32 value → factor < 2 ^ 32 → FitsSigned w64 (scaled value factor)
share_fits value factor fits small =
    subst (FitsSigned w64) (shifted (value *ℤ pos factor)) (shift_fits (value *ℤ pos factor) (product_fits value factor fits small))

-- ---- a share in lanes, whose factors have 31 bits

-- what a lane multiplies
abbrev pub lane_product : ℤ → ℕ → ℤ
lane_product value factor = to_z w64 (of_z w64 (to_z w32 (of_z w32 value))) *ℤ to_z w64 (of_z w64 (to_z w32 factor))

value_read : (value : ℤ) → FitsSigned w32 value → to_z w64 (of_z w64 (to_z w32 (of_z w32 value))) ≡ value
value_read value fits =
    ap (λ (v : ℤ). to_z w64 (of_z w64 v)) (to_z-of_z w32 value fits)
    ∙ to_z-of_z w64 value (record { sfits = omega (arith, fits.sfits) })

factor_read : (factor : ℕ) → factor < 2 ^ 31 → to_z w64 (of_z w64 (to_z w32 factor)) ≡ pos factor
factor_read factor small =
    ap (λ (f : ℤ). to_z w64 (of_z w64 f)) (factor_as_is factor small)
    ∙ to_z-of_z w64 (pos factor) (record { sfits = omega (arith, small) })

product_is : (value : ℤ) (factor : ℕ) → FitsSigned w32 value → factor < 2 ^ 31 → lane_product value factor ≡ value *ℤ pos factor
product_is value factor fits small =
    ap (λ (v : ℤ). v *ℤ to_z w64 (of_z w64 (to_z w32 factor))) (value_read value fits)
    ∙ ap (λ (f : ℤ). value *ℤ f) (factor_read factor small)

pub lane_product_fits : (value : ℤ) (factor : ℕ) → FitsSigned w32 value → factor < 2 ^ 31 → FitsSigned w64 (lane_product value factor)
lane_product_fits value factor fits small =
    subst (FitsSigned w64) (sym (product_is value factor fits small)) (product_fits value factor fits (omega (arith, small)))

-- what a lane gives
pub lane_is : (value : ℤ) (factor : ℕ) → FitsSigned w32 value → factor < 2 ^ 31
    → to_z w64 (of_z w64 (shr_z (to_z w64 (of_z w64 (lane_product value factor))) 65536)) ≡ scaled value factor
lane_is value factor fits small =
    let wide : factor < 2 ^ 32 = omega (arith, small) in
    let product : to_z w64 (of_z w64 (lane_product value factor)) ≡ value *ℤ pos factor =
    to_z-of_z w64 (lane_product value factor) (lane_product_fits value factor fits small) ∙ product_is value factor fits small in
    ap (λ (p : ℤ). to_z w64 (of_z w64 (shr_z p 65536))) product
    ∙ ap (λ (p : ℤ). to_z w64 (of_z w64 p)) (shifted (value *ℤ pos factor))
    ∙ to_z-of_z w64 (scaled value factor) (share_fits value factor fits wide)

-- four numbers that are four others
pub four_same : {a b c d a' b' c' d' : ℤ} → a ≡ a' → b ≡ b' → c ≡ c' → d ≡ d' → (a ∷ b ∷ c ∷ d ∷ []) ≡ (a' ∷ b' ∷ c' ∷ d' ∷ [])
four_same {a} {b} {c} {d} {a'} {b'} {c'} {d'} p q r s =
    ap (λ (x : ℤ). x ∷ b ∷ c ∷ d ∷ []) p ∙ ap (λ (x : ℤ). a' ∷ x ∷ c ∷ d ∷ []) q
    ∙ ap (λ (x : ℤ). a' ∷ b' ∷ x ∷ d ∷ []) r ∙ ap (λ (x : ℤ). a' ∷ b' ∷ c' ∷ x ∷ []) s

-- ---- a share of one value

-- what is multiplied
abbrev pub one_product : ℤ → ℕ → ℤ
one_product value factor = to_z w64 (of_z w64 (to_z w32 (of_z w32 value))) *ℤ to_z w64 factor

pub one_product_is : (value : ℤ) (factor : ℕ) → FitsSigned w32 value → factor < 2 ^ 32 → one_product value factor ≡ value *ℤ pos factor
one_product_is value factor fits small =
    ap (λ (v : ℤ). v *ℤ to_z w64 factor) (value_read value fits) ∙ ap (λ (f : ℤ). value *ℤ f) (wide_factor_as_is factor small)

pub one_is : (value : ℤ) (factor : ℕ) → FitsSigned w32 value → factor < 2 ^ 32
    → to_z w64 (of_z w64 (shr_z (to_z w64 (of_z w64 (one_product value factor))) 65536)) ≡ scaled value factor
one_is value factor fits small =
    let whole : FitsSigned w64 (one_product value factor) =
    subst (FitsSigned w64) (sym (one_product_is value factor fits small)) (product_fits value factor fits small) in
    let product : to_z w64 (of_z w64 (one_product value factor)) ≡ value *ℤ pos factor =
    to_z-of_z w64 (one_product value factor) whole ∙ one_product_is value factor fits small in
    ap (λ (p : ℤ). to_z w64 (of_z w64 (shr_z p 65536))) product
    ∙ ap (λ (p : ℤ). to_z w64 (of_z w64 p)) (shifted (value *ℤ pos factor))
    ∙ to_z-of_z w64 (scaled value factor) (share_fits value factor fits small)

-- a sum with a share or without it, read and written
pub sum_is : (add : Bool) (sum share read : ℤ) → FitsSigned w64 sum → read ≡ share → changed add (to_z w64 (of_z w64 sum)) read ≡ changed add sum share
sum_is add sum share read fits same = ap (λ (s : ℤ). changed add s read) (to_z-of_z w64 sum fits) ∙ ap (λ (x : ℤ). changed add sum x) same

pub sum_fits : (add : Bool) (sum share read : ℤ) → FitsSigned w64 sum → read ≡ share → FitsSigned w64 (changed add sum share)
    → FitsSigned w64 (changed add (to_z w64 (of_z w64 sum)) read)
sum_fits add sum share read fits same good = subst (FitsSigned w64) (sym (sum_is add sum share read fits same)) good

pub sum_read : (add : Bool) (sum share read : ℤ) → FitsSigned w64 sum → read ≡ share → FitsSigned w64 (changed add sum share)
    → to_z w64 (of_z w64 (changed add (to_z w64 (of_z w64 sum)) read)) ≡ changed add sum share
sum_read add sum share read fits same good =
    to_z-of_z w64 (changed add (to_z w64 (of_z w64 sum)) read) (sum_fits add sum share read fits same good) ∙ sum_is add sum share read fits same

-- a number of the lanes fits, and so does 0 past them
any_fits : (lanes : List ℤ) (k : ℕ) → Each1 (FitsSigned w64) lanes → FitsSigned w64 (get_or lanes k (pos 0))
any_fits [] k fit = record { sfits = lit< tt }
any_fits (x ∷ xs) zero fit = fit.0
any_fits (x ∷ xs) (suc k) fit = any_fits xs k fit.1

-- lanes are read as they are
pub lanes_read : (lanes : List ℤ) → Each1 (FitsSigned w64) lanes → map (to_z w64) (map (of_z w64) lanes) ≡ lanes
lanes_read [] fit = refl
lanes_read (x ∷ xs) fit =
    ap (λ (y : ℤ). y ∷ map (to_z w64) (map (of_z w64) xs)) (to_z-of_z w64 x fit.0) ∙ ap (λ (ys : List ℤ). x ∷ ys) (lanes_read xs fit.1)

-- a sum and a value, read
pub word_is : (add : Bool) (factor : ℕ) (sum value : ℤ) → FitsSigned w64 sum → FitsSigned w32 value
    → changed add (to_z w64 (of_z w64 sum)) (scaled (to_z w32 (of_z w32 value)) factor) ≡ changed add sum (scaled value factor)
word_is add factor sum value room fits = sum_is add sum (scaled value factor) _ room (ap (λ (v : ℤ). scaled v factor) (to_z-of_z w32 value fits))

-- a number of the lanes, read and written
pub lane_read : (lanes : List ℤ) (k : ℕ) → Each1 (FitsSigned w64) lanes
    → to_z w64 (of_z w64 (get_or (map (to_z w64) (map (of_z w64) lanes)) k (pos 0))) ≡ get_or lanes k (pos 0)
lane_read lanes k fit =
    ap (λ (xs : List ℤ). to_z w64 (of_z w64 (get_or xs k (pos 0)))) (lanes_read lanes fit) ∙ to_z-of_z w64 (get_or lanes k (pos 0)) (any_fits lanes k fit)

-- a sum in a lane, with the share in its lane
pub lane_sum_fits : (add : Bool) (sum value : ℤ) (factor : ℕ) → FitsSigned w64 sum → FitsSigned w32 value → factor < 2 ^ 31
    → FitsSigned w64 (changed add sum (scaled value factor))
    → FitsSigned w64 (changed add (to_z w64 (of_z w64 sum)) (to_z w64 (of_z w64 (scaled value factor))))
lane_sum_fits add sum value factor room fits small good =
    sum_fits add sum (scaled value factor) _ room (to_z-of_z w64 (scaled value factor) (share_fits value factor fits (omega (arith, small)))) good

pub lane_sum : (add : Bool) (sum value : ℤ) (factor : ℕ) → FitsSigned w64 sum → FitsSigned w32 value → factor < 2 ^ 31
    → FitsSigned w64 (changed add sum (scaled value factor))
    → to_z w64 (of_z w64 (changed add (to_z w64 (of_z w64 sum)) (to_z w64 (of_z w64 (scaled value factor))))) ≡ changed add sum (scaled value factor)
lane_sum add sum value factor room fits small good =
    sum_read add sum (scaled value factor) _ room (to_z-of_z w64 (scaled value factor) (share_fits value factor fits (omega (arith, small)))) good

pub lane_written : (add : Bool) (sum value : ℤ) (factor : ℕ) → FitsSigned w64 sum → FitsSigned w32 value → factor < 2 ^ 31
    → FitsSigned w64 (changed add sum (scaled value factor))
    → FitsSigned w64 (to_z w64 (of_z w64 (changed add (to_z w64 (of_z w64 sum)) (to_z w64 (of_z w64 (scaled value factor))))))
lane_written add sum value factor room fits small good = subst (FitsSigned w64) (sym (lane_sum add sum value factor room fits small good)) good
