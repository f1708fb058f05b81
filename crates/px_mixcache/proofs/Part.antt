-- A part of a run that is changed.
use Rattle.std.proofs.Common.{◌≡◌, ℕ, zero, suc, ◌+◌, ◌-◌, ◌<◌, ◌≤◌, ◌⊎◌, inl, inr, Bool, true, false, List, length, take, drop, get_or, arith, ◌∙◌, ap, sym, subst, ℤ, pos, w64, FitsSigned}
use Rattle.std.proofs.lemmas.Int.{ints}
use Rattle.std.specs.Prelude.{if◌then◌else◌}
use Rattle.std.specs.Int.{int_div_euclid}
use Rattle.std.proofs.Math.IntN.{+ℤ_idr, zero-*ℤ}
use Rattle.std.proofs.Math.ListN.{get_or-append}
use Rattle.std.proofs.lemmas.Bool.{le-leb}
use Rattle.std.proofs.lemmas.Bool.Decides.{nat_tests}
use Rattle.std.proofs.lemmas.Grind.{common_steps}
use Rattle.std.proofs.Math.Dec.{leb}
use Rattle.std.proofs.lemmas.List.{get_or-append_right, get_or_past, get_or-drop, get_or-take}
use borrow.Rule.Slice.PartMut.{put_mid, mid_of, mid_len, same_len_mid}
use Rattle.px_kernel.specs.Kernel.{at, changed, scaled}
use Rattle.px_mixcache.specs.Run.{share_from, AreValues, AreWords, RunChanges}

pub lt-or-le : (a b : ℕ) → (a < b) ⊎ (b ≤ a)
lt-or-le a zero = inr (omega arith)
lt-or-le zero (suc b) = inl (omega arith)
lt-or-le (suc a) (suc b) = elim (lt-or-le a b) [ inl less ↦ inl (omega arith) | inr more ↦ inr (omega arith) ]

-- nothing changes nothing
pub changed_nothing : (add : Bool) (sum : ℤ) → changed add sum (pos 0) ≡ sum
changed_nothing true sum = +ℤ_idr sum
changed_nothing false sum = omega (arith, ints)

-- nothing has no share
pub scaled_nothing : (factor : ℕ) → scaled (pos 0) factor ≡ pos 0
scaled_nothing factor = ap (λ (z : ℤ). int_div_euclid z (pos 65536)) (zero-*ℤ (pos factor))

-- ---- where shares are

leb_no : (a b : ℕ) → b < a → leb a b ≡ false
leb_no a b less = grind (arith, nat_tests)

pub share_before : (from : ℕ) (values : List ℤ) (factor k : ℕ) → k < from → share_from from values factor k ≡ pos 0
share_before from values factor k less = ap (λ (b : Bool). if b then scaled (at values (k - from)) factor else pos 0) (leb_no from k less)

pub share_inside : (from : ℕ) (values : List ℤ) (factor k : ℕ) → from ≤ k → share_from from values factor k ≡ scaled (at values (k - from)) factor
share_inside from values factor k more = ap (λ (b : Bool). if b then scaled (at values (k - from)) factor else pos 0) (le-leb from k more)

pub share_behind : (from : ℕ) (values : List ℤ) (factor k : ℕ) → from + length values ≤ k → share_from from values factor k ≡ pos 0
share_behind from values factor k more =
    share_inside from values factor k (omega (arith, more))
    ∙ ap (λ (v : ℤ). scaled v factor) (get_or_past values (k - from) (pos 0) (omega (arith, more))) ∙ scaled_nothing factor

-- ---- a part that is put back

pub mid_size : (a n : ℕ) (old : List ℤ) → a + n ≤ length old → length (mid_of a (a + n - a) old) ≡ n
mid_size a n old inside = mid_len a (a + n) old inside ∙ omega arith

module _ (a n : ℕ) (old part : List ℤ) (inside : a + n ≤ length old) (long : length part ≡ n) where
  front : length (take a old) ≡ a
  front = grind (arith, common_steps)

  pub put_before : (k : ℕ) → k < a → get_or (put_mid a (a + n - a) old part) k (pos 0) ≡ get_or old k (pos 0)
  put_before k less = get_or-append (take a old) _ (pos 0) k (omega (arith, front, less)) ∙ get_or-take a old k (pos 0) less

  pub put_inside : (k : ℕ) → a ≤ k → k < a + n → get_or (put_mid a (a + n - a) old part) k (pos 0) ≡ get_or part (k - a) (pos 0)
  put_inside k more less =
      get_or-append_right (take a old) _ a k (pos 0) front more ∙ get_or-append part _ (pos 0) (k - a) (omega (arith, long, less, more))

  pub put_behind : (k : ℕ) → a + n ≤ k → get_or (put_mid a (a + n - a) old part) k (pos 0) ≡ get_or old k (pos 0)
  put_behind k more =
      let here : a + (a + n - a + (k - a - n)) ≡ k = omega (arith, more) in
      get_or-append_right (take a old) _ a k (pos 0) front (omega (arith, more))
      ∙ get_or-append_right part _ n (k - a) (pos 0) long (omega (arith, more))
      ∙ get_or-drop (a + n - a) (drop a old) (k - a - n) (pos 0)
      ∙ get_or-drop a old (a + n - a + (k - a - n)) (pos 0)
      ∙ ap (λ (i : ℕ). get_or old i (pos 0)) here

  pub mid_at : (j : ℕ) → j < n → get_or (mid_of a (a + n - a) old) j (pos 0) ≡ get_or old (a + j) (pos 0)
  mid_at j less = get_or-take (a + n - a) (drop a old) j (pos 0) (omega (arith, less)) ∙ get_or-drop a old j (pos 0)

-- a changed part, put back, changes the run
pub part_changed : (add : Bool) (old : List ℤ) (from : ℕ) (values : List ℤ) (factor : ℕ) (part : List ℤ) → from + length values ≤ length old
    → length part ≡ length (mid_of from (from + length values - from) old)
    → ((k : ℕ) → k < length (mid_of from (from + length values - from) old)
    → at part k ≡ changed add (at (mid_of from (from + length values - from) old) k) (scaled (at values k) factor))
    → RunChanges add old from values factor (put_mid from (from + length values - from) old part)
part_changed add old from values factor part inside size each =
    let n = length values in
    let long : length part ≡ n = size ∙ mid_size from n old inside in
    record {
      long = same_len_mid from (from + n - from) old part size;
      sums = λ k less. elim (lt-or-le k from) [
        | inl before ↦ put_before from n old part inside long k before
            ∙ sym (ap (changed add (at old k)) (share_before from values factor k before) ∙ changed_nothing add (at old k))
        | inr rest ↦ elim (lt-or-le k (from + n)) [
          | inl within ↦ let here : from + (k - from) ≡ k = omega (arith, rest) in
              put_inside from n old part inside long k rest within
              ∙ each (k - from) (omega (arith, mid_size from n old inside, rest, within))
              ∙ ap (λ (s : ℤ). changed add s (scaled (at values (k - from)) factor)) (mid_at from n old part inside long (k - from) (omega (arith, rest, within)) ∙ ap (λ (i : ℕ). get_or old i (pos 0)) here)
              ∙ sym (ap (changed add (at old k)) (share_inside from values factor k rest))
          | inr behind ↦ put_behind from n old part inside long k behind
              ∙ sym (ap (changed add (at old k)) (share_behind from values factor k behind) ∙ changed_nothing add (at old k))
        ]
      ];
    }

-- each sum still fits a word
pub words_stay : (add : Bool) (old : List ℤ) (from : ℕ) (values : List ℤ) (factor : ℕ) (new : List ℤ) → AreWords old → AreValues add old from values factor
    → RunChanges add old from values factor new → AreWords new
words_stay add old from values factor new room good changes k less =
    let inside : k < length old = omega (arith, less, changes.long) in
    subst (FitsSigned w64) (sym (changes.sums k inside)) (fits k inside) where
      stays : (k : ℕ) → k < length old → share_from from values factor k ≡ pos 0 → FitsSigned w64 (changed add (at old k) (share_from from values factor k))
      stays k inside nothing = subst (FitsSigned w64) (sym (ap (changed add (at old k)) nothing ∙ changed_nothing add (at old k))) (room k inside)

      fits : (k : ℕ) → k < length old → FitsSigned w64 (changed add (at old k) (share_from from values factor k))
      fits k inside = elim (lt-or-le k from) [
        | inl before ↦ stays k inside (share_before from values factor k before)
        | inr rest ↦ elim (lt-or-le k (from + length values)) [
          | inl within ↦ let here : from + (k - from) ≡ k = omega (arith, rest) in
              subst (FitsSigned w64) (ap (λ (i : ℕ). changed add (at old i) (scaled (at values (k - from)) factor)) here ∙ sym (ap (changed add (at old k)) (share_inside from values factor k rest)))
              (good.fit (k - from) (omega (arith, rest, within)))
          | inr behind ↦ stays k inside (share_behind from values factor k behind)
        ]
      ]
