-- Shares that are added span by span.
use Rattle.std.proofs.Common.{◌≡◌, ℕ, ◌+◌, ◌-◌, ◌*◌, ◌<◌, ◌≤◌, length, Bool, true, false, cond, refl, ap, sym, ◌∙◌, subst, arith, ⊎_elim, ℤ, pos, None}
use Rattle.std.specs.Prelude.{nat_lt}
use Rattle.std.proofs.lemmas.Bool.{cases_lt, cond-true, cond-false, lt-ltb, le-ltb}
use Rattle.std.proofs.lemmas.Int.{ints}
use Rattle.std.proofs.Math.Nat.{mul-add}
use Rattle.px_sample.specs.declared.spec.Spec.{Spec}
use Rattle.px_kernel.specs.Kernel.{changed}
use Rattle.px_mixcache.specs.Cache.{KeptSums, kept_at}
use Rattle.px_model.specs.Stream.{Stream}
use Rattle.px_msg.specs.View.{sample_spec}
use Rattle.px_stream.specs.Heard.{heard_at}
use Rattle.px_kept_mix.specs.Kept.{IsSumOf, from_on, between}
use Rattle.px_kept_mix.specs.Keeping.{IsAsLarge, AreSmallFrom, Shares, SharesBetween, AreLittle, share_in}
use Rattle.px_kept_mix.proofs.Putting.{none_little}
use Rattle.px_kept_mix.proofs.Reading.{from_high, inside_both}
use Rattle.px_kept_mix.proofs.Sounding.{share_none}

-- ---- a number between two places

pub below_both : (from to k : ℕ) (x : ℤ) → k < from → between from to k x ≡ pos 0
below_both from to k x low =
    ⊎_elim
    (λ (less : k < to). cond-true (nat_lt k to) (from_on from k x) (pos 0) (lt-ltb k to less) ∙ cond-true (nat_lt k from) (pos 0) x (lt-ltb k from low))
    (λ (past : to ≤ k). cond-false (nat_lt k to) (from_on from k x) (pos 0) (le-ltb k to past))
    (cases_lt k to)

pub past_both : (from to k : ℕ) (x : ℤ) → to ≤ k → between from to k x ≡ pos 0
past_both from to k x past = cond-false (nat_lt k to) (from_on from k x) (pos 0) (le-ltb k to past)

-- where it is 0 up to a place it counts only from there on
later_both : (from start to k : ℕ) (x : ℤ) → from ≤ start → (from ≤ k → k < start → x ≡ pos 0) → between start to k x ≡ between from to k x
later_both from start to k x order silent =
    ⊎_elim
    (λ (low : k < from). below_both start to k x (omega (arith, low, order)) ∙ sym (below_both from to k x low))
    (λ (high : from ≤ k). ⊎_elim
    (λ (less : k < to). ⊎_elim
    (λ (quiet : k < start). below_both start to k x quiet ∙ sym (inside_both from to k x high less ∙ silent high quiet))
    (λ (loud : start ≤ k). inside_both start to k x loud less ∙ sym (inside_both from to k x high less))
    (cases_lt k start))
    (λ (past : to ≤ k). past_both start to k x past ∙ sym (past_both from to k x past))
    (cases_lt k to))
    (cases_lt k from)

-- ---- sums

changed_none : (add : Bool) (sum : ℤ) → sum ≡ changed add sum (pos 0)
changed_none true sum = omega (arith, ints)
changed_none false sum = omega (arith, ints)

-- what counts up to a place, and then from there on, counts in all
both_counted : (add : Bool) (from at to k : ℕ) (sum x : ℤ) → from ≤ at → at ≤ to
    → changed add (changed add sum (between from at k x)) (between at to k x) ≡ changed add sum (between from to k x)
both_counted add from at to k sum x first second =
    ⊎_elim
    (λ (before : k < at).
    ap (λ (y : ℤ). changed add (changed add sum (between from at k x)) y) (below_both at to k x before)
    ∙ sym (changed_none add (changed add sum (between from at k x)))
    ∙ ap (λ (y : ℤ). changed add sum y) (same_before before))
    (λ (later : at ≤ k).
    ap (λ (y : ℤ). changed add (changed add sum y) (between at to k x)) (past_both from at k x later)
    ∙ ap (λ (y : ℤ). changed add y (between at to k x)) (sym (changed_none add sum))
    ∙ ap (λ (y : ℤ). changed add sum y) (same_later later))
    (cases_lt k at)
  where
    same_before : k < at → between from at k x ≡ between from to k x
    same_before before =
        ⊎_elim
        (λ (low : k < from). below_both from at k x low ∙ sym (below_both from to k x low))
        (λ (high : from ≤ k). inside_both from at k x high before ∙ sym (inside_both from to k x high (omega (arith, before, second))))
        (cases_lt k from)

    same_later : at ≤ k → between at to k x ≡ between from to k x
    same_later later =
        ⊎_elim
        (λ (less : k < to). inside_both at to k x later less ∙ sym (inside_both from to k x (omega (arith, later, first)) less))
        (λ (past : to ≤ k). past_both at to k x past ∙ sym (past_both from to k x past))
        (cases_lt k to)

-- ---- a silence

module _ (sink : Spec) (s : Stream) (from n : ℕ) (silent : (j : ℕ) → j < n → heard_at s (from + j) ≡ None) where
  no_share : (c k : ℕ) → from ≤ k → k < from + n → share_in sink s c k ≡ pos 0
  no_share c k high less =
      let place : from + (k - from) ≡ k = omega (arith, high) in
      share_none (sample_spec sink) s c k (subst (λ (i : ℕ). heard_at s i ≡ None) place (silent (k - from) (omega (arith, high, less))))

  -- sums that stay, where all is silent
  pub stays : (add : Bool) (to : ℕ) (kept : KeptSums) → from + n ≡ to → SharesBetween add sink s from to kept kept
  stays add to kept end = λ c k fed less.
      changed_none add (kept_at kept c k)
      ∙ ap (λ (x : ℤ). changed add (kept_at kept c k) x)
      (sym (below_or_past c k) ∙ later_both from to to k (share_in sink s c k) (omega (arith, end)) (λ high quiet. no_share c k high (omega (arith, quiet, end))))
    where
      below_or_past : (c k : ℕ) → between to to k (share_in sink s c k) ≡ pos 0
      below_or_past c k =
          ⊎_elim
          (λ (low : k < to). below_both to to k (share_in sink s c k) low)
          (λ (past : to ≤ k). past_both to to k (share_in sink s c k) past)
          (cases_lt k to)

  pub little_here : (to : ℕ) → to ≤ from + n → AreLittle sink s from to
  little_here to end = λ c k fed high less. subst (IsSumOf 1) (sym (no_share c k high (omega (arith, less, end)))) none_little

  -- and what is added after it
  pub after_silence : (add : Bool) (start to to' : ℕ) (before after : KeptSums) → start ≡ from + n → to ≡ to' → SharesBetween add sink s start to before after → SharesBetween add sink s from to' before after
  after_silence add start to to' before after begin end shares = λ c k fed less.
      shares c k fed less
      ∙ ap (λ (x : ℤ). changed add (kept_at before c k) x)
      (later_both from start to k (share_in sink s c k) (omega (arith, begin)) (λ high quiet. no_share c k high (omega (arith, quiet, begin)))
      ∙ ap (λ (t : ℕ). between from t k (share_in sink s c k)) end)

  pub little_after : (start to to' : ℕ) → start ≡ from + n → to ≡ to' → AreLittle sink s start to → AreLittle sink s from to'
  little_after start to to' begin end little = λ c k fed high less.
      ⊎_elim
      (λ (quiet : k < start). little_here start (omega (arith, begin)) c k fed high quiet)
      (λ (loud : start ≤ k). little c k fed loud (omega (arith, less, end)))
      (cases_lt k start)

-- ---- span by span

module _ (add : Bool) (sink : Spec) (s : Stream) (from at to : ℕ) (first : from ≤ at) (second : at ≤ to) where
  pub both_spans : (before between' after : KeptSums) → IsAsLarge before between' → SharesBetween add sink s from at before between' → SharesBetween add sink s at to between' after → SharesBetween add sink s from to before after
  both_spans before between' after large one two = λ c k fed less.
      two c k (omega (arith, fed, large.channels)) (omega (arith, less, large.frames))
      ∙ ap (λ (x : ℤ). changed add x (between at to k (share_in sink s c k))) (one c k fed less)
      ∙ both_counted add from at to k (kept_at before c k) (share_in sink s c k) first second

  pub both_little : AreLittle sink s from at → AreLittle sink s at to → AreLittle sink s from to
  both_little one two = λ c k fed high less.
      ⊎_elim
      (λ (before : k < at). one c k fed high before)
      (λ (later : at ≤ k). two c k fed later less)
      (cases_lt k at)

-- the sums past a span are what they were
pub small_past : (add : Bool) (sink : Spec) (s : Stream) (from at n : ℕ) (before after : KeptSums) → IsAsLarge before after → from ≤ at → SharesBetween add sink s from at before after
    → AreSmallFrom from n before → AreSmallFrom at n after
small_past add sink s from at n before after large order shares small = λ c k fed high less.
    let there : c < length before.runs = omega (arith, fed, large.channels) in
    let within : k < before.frames = omega (arith, less, large.frames) in
    subst (IsSumOf n)
    (sym (shares c k there within
    ∙ ap (λ (x : ℤ). changed add (kept_at before c k) x) (past_both from at k (share_in sink s c k) high)
    ∙ sym (changed_none add (kept_at before c k))))
    (small c k there (omega (arith, high, order)) within)

-- all of a span up to the end of the sums
pub to_the_end : (add : Bool) (sink : Spec) (s : Stream) (from to : ℕ) (before after : KeptSums) → before.frames ≤ to → SharesBetween add sink s from to before after → Shares add sink s from before after
to_the_end add sink s from to before after end shares = λ c k fed less.
    shares c k fed less
    ∙ ap (λ (x : ℤ). changed add (kept_at before c k) x)
    (cond-true (nat_lt k to) (from_on from k (share_in sink s c k)) (pos 0) (lt-ltb k to (omega (arith, less, end))))

-- ---- ticks

pub ticks_more : (c from at to s s' s'' : ℕ) → from ≤ at → at ≤ to → s' ≤ s + 2 * (c * (at - from)) → s'' ≤ s' + 2 * (c * (to - at)) → s'' ≤ s + 2 * (c * (to - from))
ticks_more c from at to s s' s'' first second one two =
    omega (arith, one, two, mul-add c (at - from) (to - at), ap (λ (n : ℕ). c * n) all)
  where
    all : (at - from) + (to - at) ≡ to - from
    all = omega (arith, first, second)
