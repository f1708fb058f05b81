-- A number of links in digits, as clap tests and reads it.
use Rattle.std.proofs.Common.{◌≡◌, ◌∙◌, ◌≤◌, ◌^◌, ◌==◌, ℕ, Bool, cond, true, false, refl, ap, arith, List, [], ◌∷◌, drop, length, Some, None, nat_lt, lt-ltb}
use Rattle.std.specs.Prelude.{decimal, pos, unwrap_or}
use Rattle.std.specs.List.{list_all}
use Rattle.std.specs.Char.{digit_value}
use Rattle.std.specs.Str.Parse.{AllDigits, IsNumeral, digits_value, starts_with_minus, without_leading_plus}
use Rattle.std.proofs.lemmas.Bool.{ne_eqb}
use Rattle.std.proofs.lemmas.Fmt.{decimal_is_IsNumeral}
use Rattle.std.proofs.lemmas.Str.Parse.{digit_from_value}
use Rattle.clap.specs.Lexer.{without_minus}
use Rattle.clap.specs.ValueTests.{is_numeral, is_signed_in}
use Rattle.px_app.specs.ServeCommand.{number}

pub no_minus : (ds : List ℕ) → IsNumeral 10 ds → starts_with_minus ds ≡ false
no_minus [] h = absurd (omega (arith, h.0))
no_minus (d ∷ ds) h = ne_eqb _ _ (λ e. omega (arith, digit_from_value d h.1.0))

pub no_plus : (ds : List ℕ) → IsNumeral 10 ds → without_leading_plus ds ≡ ds
no_plus [] h = refl
no_plus (d ∷ ds) h =
    let plus : (d == 43) ≡ false = ne_eqb _ _ (λ e. omega (arith, digit_from_value d h.1.0)) in
    ap (λ (b : Bool). drop (cond b 1 0) (d ∷ ds)) plus

pub no_hyphen : (ds : List ℕ) → IsNumeral 10 ds → without_minus ds ≡ ds
no_hyphen [] h = refl
no_hyphen (d ∷ ds) h =
    let minus : (d == 45) ≡ false = ne_eqb _ _ (λ e. omega (arith, digit_from_value d h.1.0)) in
    ap (λ (b : Bool). unwrap_or (cond b (Some ds) None) (d ∷ ds)) minus

digits_pass : (ds : List ℕ) → AllDigits 10 ds → list_all (λ d. nat_lt (digit_value d) 10) ds ≡ true
digits_pass [] h = refl
digits_pass (d ∷ ds) h = rw (lt-ltb (digit_value d) 10 h.0) (digits_pass ds h.1)

numeral_passes : (ds : List ℕ) → IsNumeral 10 ds → is_numeral ds ≡ true
numeral_passes ds h = rw (lt-ltb 0 (length ds) h.0, digits_pass ds h.1) refl

signed_passes : (t : List ℕ) (n : ℕ) → starts_with_minus t ≡ false → without_leading_plus t ≡ t → is_numeral t ≡ true → digits_value 10 t ≡ n → 1 ≤ n → n ≤ 65535
    → is_signed_in (pos 1) (pos 65535) t ≡ true
signed_passes t n minus plus numeral value low high =
    rw (minus, plus, numeral, value, lt-ltb n (2 ^ 63) (omega arith)) (grind arith)

pub links_pass : (n : ℕ) → 1 ≤ n → n ≤ 65535 → is_signed_in (pos 1) (pos 65535) (decimal n) ≡ true
links_pass n low high =
    let is = decimal_is_IsNumeral n (omega arith) in
    signed_passes (decimal n) n (no_minus (decimal n) is.0) (no_plus (decimal n) is.0) (numeral_passes (decimal n) is.0) is.1 low high

-- read back, it is the number
pub links_read : (n : ℕ) → n ≤ 65535 → number (without_minus (decimal n)) ≡ n
links_read n high =
    let is = decimal_is_IsNumeral n (omega arith) in
    ap number (no_hyphen (decimal n) is.0) ∙ ap (digits_value 10) (no_plus (decimal n) is.0) ∙ is.1

first_not : (ds : List ℕ) → IsNumeral 10 ds → (x : ℕ) × (xs : List ℕ) × (ds ≡ x ∷ xs) × ((x == 45) ≡ false)
first_not [] h = absurd (omega (arith, h.0))
first_not (d ∷ ds) h = (d, ds, refl, no_minus (d ∷ ds) h)

-- its first byte isn't `-`
pub links_first : (n : ℕ) → n ≤ 65535 → (x : ℕ) × (xs : List ℕ) × (decimal n ≡ x ∷ xs) × ((x == 45) ≡ false)
links_first n high = first_not (decimal n) (decimal_is_IsNumeral n (omega arith)).0
