-- The numbers that words say.
use Rattle.std.proofs.Common.{◌≡◌, ℕ, suc, ◌+◌, ◌*◌, ◌-◌, ◌^◌, ◌<◌, ◌≤◌, Bool, true, false, List, [], ◌∷◌, length, get_or, drop, Option, None, Some, refl, sym, ap, ◌∙◌, arith}
use Rattle.std.specs.Prelude.{cond, nat_lt, nat_le}
use Rattle.std.proofs.Math.Seq.{drop-cons}
use Rattle.std.proofs.lemmas.Option.{same_Some}
use Rattle.std.proofs.lemmas.Bool.{le-ltb, lt-ltb, lt-leb, le-leb, ltb-true, ltb-false, and_left, and_right, and_from}
use Rattle.px_ctl.specs.Number.{is_digit, digits_behind, in_64_bits}

-- a digit, or none, at the front
digits_at : (n c : ℕ) (rest : List ℕ) (b : Bool) → is_digit c ≡ b → digits_behind n (c ∷ rest) ≡ cond b (digits_behind (n * 10 + (c - 0x30)) rest) None
digits_at n c rest b is = ap (λ (d : Bool). cond d (digits_behind (n * 10 + (c - 0x30)) rest) None) is

module _ (word : List ℕ) (i n d : ℕ) (inside : i < length word) where
  front : digits_behind n (drop i word) ≡ digits_behind n (get_or word i d ∷ drop (suc i) word)
  front = ap (digits_behind n) (drop-cons word i d inside)

  digit_none : is_digit (get_or word i d) ≡ false → digits_behind n (drop i word) ≡ None
  digit_none other = front ∙ digits_at n (get_or word i d) (drop (suc i) word) false other

  pub digit_below : get_or word i d < 0x30 → digits_behind n (drop i word) ≡ None
  digit_below low = digit_none (and_left (nat_le 0x30 (get_or word i d)) (nat_le (get_or word i d) 0x39) (lt-leb 0x30 (get_or word i d) low))

  pub digit_above : 0x39 < get_or word i d → digits_behind n (drop i word) ≡ None
  digit_above high = digit_none (and_right (nat_le 0x30 (get_or word i d)) (nat_le (get_or word i d) 0x39) (lt-leb (get_or word i d) 0x39 high))

  pub digit_more : 0x30 ≤ get_or word i d → get_or word i d ≤ 0x39 → digits_behind n (drop i word) ≡ digits_behind (n * 10 + (get_or word i d - 0x30)) (drop (suc i) word)
  digit_more low high = front ∙ digits_at n (get_or word i d) (drop (suc i) word) true (and_from (nat_le 0x30 (get_or word i d)) (nat_le (get_or word i d) 0x39) (le-leb 0x30 (get_or word i d) low) (le-leb (get_or word i d) 0x39 high))

none-some-number : (v : ℕ) → (let o : Option ℕ = None in o) ≡ Some v → ⊥
none-some-number v e = cc

-- more digits make no smaller number
pub at_least : (n v : ℕ) (digits : List ℕ) → digits_behind n digits ≡ Some v → n ≤ v
at_least n v [] is = (let e = same_Some n v is in omega (arith, e))
at_least n v (c ∷ rest) is = by_digit (is_digit c) refl (λ e. at_least (n * 10 + (c - 0x30)) v rest e)
  where
    by_digit : (b : Bool) → is_digit c ≡ b → (digits_behind (n * 10 + (c - 0x30)) rest ≡ Some v → n * 10 + (c - 0x30) ≤ v) → n ≤ v
    by_digit true digit more = (let h = more (sym (digits_at n c rest true digit) ∙ is) in omega (arith, h))
    by_digit false other more = absurd (none-some-number v (sym (digits_at n c rest false other) ∙ is))

pub not_below : (a b : ℕ) → (a < b → ⊥) → b ≤ a
not_below a b never = by (nat_lt a b) refl
  where
    by : (t : Bool) → nat_lt a b ≡ t → b ≤ a
    by true is = absurd (never (ltb-true a b is))
    by false is = ltb-false a b is

pub past_64_bits : (n : ℕ) (digits : List ℕ) → 2 ^ 64 ≤ n → in_64_bits (digits_behind n digits) ≡ None
past_64_bits n digits past = by (digits_behind n digits) refl
  where
    by : (o : Option ℕ) → digits_behind n digits ≡ o → in_64_bits o ≡ None
    by None is = refl
    by (Some v) is = (let h = at_least n v digits is in
        let e : nat_lt v (2 ^ 64) ≡ false = le-ltb v (2 ^ 64) (omega (arith, h, past)) in
        ap (λ (b : Bool). cond b (Some v) None) e)

pub within_64_bits : (n : ℕ) → n < 2 ^ 64 → in_64_bits (Some n) ≡ Some n
within_64_bits n fits = ap (λ (b : Bool). cond b (Some n) None) (lt-ltb n (2 ^ 64) fits)
