-- Lists whose entries are equal, place by place.
use Rattle.std.proofs.Common.{◌≡◌, ℕ, suc, ◌+◌, ◌<◌, Bool, true, false, List, [], ◌∷◌, length, Option, ap, refl, sym, ◌∙◌, arith}
use Rattle.std.specs.Prelude.{nat_lt, unwrap_or}
use Rattle.std.specs.List.{slice_get}
use Rattle.std.proofs.lemmas.Bool.Decides.{nat_tests}

module _ {A : Type 0} where
  -- one more is equal
  pub one_more : (xs ys : List A) (i : ℕ) → ((k : ℕ) → k < i → slice_get xs k ≡ slice_get ys k) → slice_get xs i ≡ slice_get ys i → (k : ℕ) → k < i + 1 → slice_get xs k ≡ slice_get ys k
  one_more xs ys i before here k l = by (nat_lt k i) refl
    where
      same : k ≡ i → slice_get xs k ≡ slice_get ys k
      same e = ap (λ n. slice_get xs n) e ∙ here ∙ ap (λ n. slice_get ys n) (sym e)

      by : (b : Bool) → nat_lt k i ≡ b → slice_get xs k ≡ slice_get ys k
      by true t = before k (grind (arith, nat_tests))
      by false t =
          let u : i < k + 1 = grind (arith, nat_tests) in
          same (omega (arith, l, u))

  -- all are
  pub all_equal : (xs ys : List A) → length xs ≡ length ys → ((k : ℕ) → k < length xs → slice_get xs k ≡ slice_get ys k) → xs ≡ ys
  all_equal [] [] e same = refl
  all_equal [] (y ∷ ys) e same = absurd (omega (arith, e))
  all_equal (x ∷ xs) [] e same = absurd (omega (arith, e))
  all_equal (x ∷ xs) (y ∷ ys) e same =
      (λ k. ap (λ (o : Option A). unwrap_or o x) (same 0 (omega arith)) k ∷ all_equal xs ys (omega (arith, e)) (λ j l. same (suc j) (omega (arith, l))) k)
