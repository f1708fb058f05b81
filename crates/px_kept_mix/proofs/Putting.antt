-- Values that are put into kept sums.
use Rattle.std.proofs.Common.{◌≡◌, ℕ, ◌+◌, ◌-◌, ◌*◌, ◌/◌, ◌^◌, ◌<◌, ◌≤◌, List, length, take, drop, get_or, Bool, true, false, cond, ap, sym, ◌∙◌, subst, arith, ⊎_elim, ℤ, pos, All, w32, w64, FitsSigned, length-take, mul_comm}
use Rattle.std.specs.Prelude.{nat_lt, nat_le, slice_index}
use Rattle.std.proofs.lemmas.Bool.{cases_lt, cond-true, cond-false, lt-ltb, le-ltb}
use Rattle.std.proofs.lemmas.Bool.Decides.{nat_tests}
use Rattle.std.proofs.lemmas.Int.{ints}
use Rattle.std.proofs.lemmas.List.{get_or-take, get_or-drop, get_or_past}
use Rattle.std.proofs.lemmas.List.Elements.{All-get_or}
use Rattle.std.proofs.Math.Nat.{add-mul, mul-le-mul_right}
use Rattle.px_stream.proofs.Runs.{run_is}
use Rattle.px_kernel.specs.Kernel.{at, changed, scaled}
use Rattle.px_mixcache.specs.Run.{AreValues}
use Rattle.px_mixcache.specs.Cache.{KeptSums, kept_at, run_at, run_of, part_at}
use Rattle.px_kept_mix.specs.Kept.{IsSumOf, from_on}
use Rattle.px_kept_mix.specs.Keeping.{AreSmallFrom}
use Rattle.px_kept_mix.proofs.Ranges.{sum_fits, share_little, one_more}

-- the place of a channel's value
pub place_within : (c len runs j : ℕ) → c < runs → j < len → c * len + j < runs * len
place_within c len runs j inside less =
    let next : c + 1 ≤ runs = omega (arith, inside) in
    omega (arith, less, mul-le-mul_right len next, add-mul c 1 len)

-- a channel's run of the values
pub run_value : (values : List ℤ) (c len j : ℕ) → j < len → at (run_of len values c) j ≡ get_or values (c * len + j) (pos 0)
run_value values c len j less = get_or-take len (drop (c * len) values) j (pos 0) less ∙ get_or-drop (c * len) values j (pos 0)

run_length : (values : List ℤ) (c len j : ℕ) → j < length (run_of len values c) → j < len
run_length values c len j less = omega (arith, less, length-take len (drop (c * len) values))

-- the first places of some values are runs of so many
module _ (values : List ℤ) (channels given runs : ℕ) (same : runs ≡ channels) (some : 1 ≤ channels) (inside : channels * given ≤ length values) where
  pub all_taken : length (take (channels * given) values) ≡ channels * given
  all_taken = omega (arith, inside, length-take (channels * given) values)

  pub run_taken : length (take (channels * given) values) / runs ≡ given
  run_taken = run_is (length (take (channels * given) values)) given runs (omega (arith, same, some)) (all_taken ∙ mul_comm channels given ∙ ap (λ (n : ℕ). given * n) (sym same))

  pub whole_taken : length (take (channels * given) values) ≡ runs * (length (take (channels * given) values) / runs)
  whole_taken = all_taken ∙ ap (λ (n : ℕ). n * given) (sym same) ∙ ap (λ (n : ℕ). runs * n) (sym run_taken)

nothing_fits : FitsSigned w32 (pos 0)
nothing_fits = record { sfits = omega arith }

pub none_little : IsSumOf 1 (pos 0)
none_little = record { low = omega (arith, ints); high = omega (arith, ints) }

either : (b : Bool) (x : ℤ) → IsSumOf 1 x → IsSumOf 1 (cond b x (pos 0))
either true x little = little
either false x little = none_little

module _ (kept : KeptSums) (values : List ℤ) (factors : List ℕ) (from len : ℕ) (size : length values ≡ length kept.runs * len) (inside : from + len ≤ kept.frames)
    (words : All (FitsSigned w32) values) (room : AreSmallFrom from 258 kept) (small : (c : ℕ) → c < length kept.runs → slice_index factors c < 2 ^ 32) where
  word : (c j : ℕ) → c < length kept.runs → j < len → FitsSigned w32 (get_or values (c * len + j) (pos 0))
  word c j fed less = All-get_or (FitsSigned w32) values (c * len + j) (pos 0) (omega (arith, size, place_within c len (length kept.runs) j fed less)) words

  word_or_none : (c j : ℕ) → c < length kept.runs → FitsSigned w32 (at (run_of len values c) j)
  word_or_none c j fed =
      ⊎_elim
      (λ (few : j < len). subst (FitsSigned w32) (sym (run_value values c len j few)) (word c j fed few))
      (λ (past : len ≤ j). subst (FitsSigned w32) (sym (get_or_past (run_of len values c) j (pos 0) (omega (arith, past, length-take len (drop (c * len) values))))) nothing_fits)
      (cases_lt j len)

  pub little : (c k : ℕ) → c < length kept.runs → IsSumOf 1 (part_at from len values factors c k)
  little c k fed =
      either (nat_le from k) (scaled (at (run_of len values c) (k - from)) (slice_index factors c))
      (share_little (at (run_of len values c) (k - from)) (slice_index factors c) (word_or_none c (k - from) fed) (small c fed))

  pub values_fit : (add : Bool) (c : ℕ) → c < length kept.runs → AreValues add (run_at kept.runs c).sums from (run_of len values c) (slice_index factors c)
  values_fit add c fed = record {
    words = λ j less.
        let few : j < len = run_length values c len j less in
        subst (FitsSigned w32) (sym (run_value values c len j few)) (word c j fed few);
    fit = λ j less.
        let few : j < len = run_length values c len j less in
        subst (λ (v : ℤ). FitsSigned w64 (changed add (at (run_at kept.runs c).sums (from + j)) (scaled v (slice_index factors c)))) (sym (run_value values c len j few))
        (sum_fits (changed add (kept_at kept c (from + j)) (scaled (get_or values (c * len + j) (pos 0)) (slice_index factors c)))
        (one_more 258 add (kept_at kept c (from + j)) (scaled (get_or values (c * len + j) (pos 0)) (slice_index factors c))
        (room c (from + j) fed (omega arith) (omega (arith, few, inside)))
        (share_little (get_or values (c * len + j) (pos 0)) (slice_index factors c) (word c j fed few) (small c fed))));
  }

-- what is added to a sum, from a place on
pub part_is : (values : List ℤ) (factors : List ℕ) (from len c k : ℕ) → part_at from len values factors c k ≡ from_on from k (scaled (at (run_of len values c) (k - from)) (slice_index factors c))
part_is values factors from len c k =
    ⊎_elim
    (λ (low : k < from).
    cond-false (nat_le from k) (scaled (at (run_of len values c) (k - from)) (slice_index factors c)) (pos 0) (before from k low)
    ∙ sym (cond-true (nat_lt k from) (pos 0) (scaled (at (run_of len values c) (k - from)) (slice_index factors c)) (lt-ltb k from low)))
    (λ (high : from ≤ k).
    cond-true (nat_le from k) (scaled (at (run_of len values c) (k - from)) (slice_index factors c)) (pos 0) (behind from k high)
    ∙ sym (cond-false (nat_lt k from) (pos 0) (scaled (at (run_of len values c) (k - from)) (slice_index factors c)) (le-ltb k from high)))
    (cases_lt k from)
  where
    before : (a b : ℕ) → b < a → nat_le a b ≡ false
    before a b l = grind (arith, nat_tests)

    behind : (a b : ℕ) → a ≤ b → nat_le a b ≡ true
    behind a b l = grind (arith, nat_tests)
