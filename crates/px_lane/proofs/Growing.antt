-- Kept sums to which the streams' shares of the frames that come are added.
use Rattle.std.proofs.Common.{◌≡◌, ℕ, suc, ◌+◌, ◌<◌, ◌≤◌, List, [], ◌∷◌, ◌++◌, length, take, get_or, length-take, refl, sym, ◌∙◌, ap, subst, arith, ⊎_elim, ℤ, pos, ◌+ℤ◌}
use Rattle.std.specs.Prelude.{nat_lt}
use Rattle.std.specs.List.{AllByRecursion}
use Rattle.std.proofs.lemmas.Int.{ints}
use Rattle.std.proofs.lemmas.Bool.{cases_lt, cond-true, cond-false, lt-ltb, le-ltb}
use Rattle.std.proofs.lemmas.List.{take_all, take_more, map-append}
use Rattle.px_sample.specs.declared.spec.Spec.{Spec}
use Rattle.px_msg.specs.View.{sample_spec}
use Rattle.px_model.specs.Mix.{sum_of}
use Rattle.px_model.specs.Sink.{Input as Stands, streams_of}
use Rattle.px_mixcache.specs.Cache.{KeptSums, kept_at}
use Rattle.px_stream.specs.Samples.{samples}
use Rattle.px_kept_mix.specs.Kept.{IsSumOf, AddLittle, AreKept, from_on, share_at}
use Rattle.px_kept_mix.proofs.Added.{added_range}
use Rattle.px_kept_mix.proofs.Follows as follows
use Rattle.px_kept_mix.specs.Keeping.{IsKept, AreSmall, share_in}
use Rattle.px_lane.specs.declared.input.Input.{Input}
use Rattle.px_lane.specs.Inputs.{input_of, inputs_of}

-- from a place on, and before it
pub put_before : (from k : ℕ) (a x : ℤ) → k < from → a +ℤ from_on from k x ≡ a
put_before from k a x low = ap (λ (z : ℤ). a +ℤ z) (cond-true (nat_lt k from) (pos 0) x (lt-ltb k from low)) ∙ none a where
  none : (z : ℤ) → z +ℤ pos 0 ≡ z
  none z = omega (arith, ints)

pub put_behind : (from k : ℕ) (a x : ℤ) → from ≤ k → a +ℤ from_on from k x ≡ a +ℤ x
put_behind from k a x high = ap (λ (z : ℤ). a +ℤ z) (cond-false (nat_lt k from) (pos 0) x (le-ltb k from high))

-- each input's share in range, place by place or input by input
pub by_input : (sink : Spec) (from to : ℕ) (xs : List Stands)
    → ((c k : ℕ) → c < sink.channels → from ≤ k → k < to → AllByRecursion (λ x. IsSumOf 1 (share_in sink (Stands.stream x) c k)) xs)
    → AddLittle samples (sample_spec sink) from xs → AddLittle samples (sample_spec sink) to xs
by_input sink from to [] behind before = tt
by_input sink from to (x ∷ xs) behind before = (
  λ c k fed less. ⊎_elim (λ (low : k < from). before.0 c k fed low) (λ (high : from ≤ k). (behind c k fed high less).0) (cases_lt k from),
  by_input sink from to xs (λ c k fed high less. (behind c k fed high less).1) before.1,
)

-- one more input whose share is in range
pub one_more_little : (sink : Spec) (c k : ℕ) (xs : List Stands) (x : Stands) → AllByRecursion (λ y. IsSumOf 1 (share_in sink (Stands.stream y) c k)) xs → IsSumOf 1 (share_in sink x.stream c k)
    → AllByRecursion (λ y. IsSumOf 1 (share_in sink (Stands.stream y) c k)) (xs ++ x ∷ [])
one_more_little sink c k [] x h one = (one, tt)
one_more_little sink c k (y ∷ xs) x h one = (h.0, one_more_little sink c k xs x h.1 one)

fewer : (n m : ℕ) (sum : ℤ) → n ≤ m → IsSumOf n sum → IsSumOf m sum
fewer n m sum few h = record { low = omega (arith, ints, h.low, few); high = omega (arith, ints, h.high, few) }

-- the sums so far are in range
pub so_far_small : (sink : Spec) (from n : ℕ) (all front : List Stands) (start kept : KeptSums) → AreKept samples (sample_spec sink) from all (kept_at start) → length all ≤ 256 → length front ≤ 256
    → length kept.runs ≡ sink.channels → kept.frames ≡ n
    → ((c k : ℕ) → c < sink.channels → k < from → kept_at kept c k ≡ kept_at start c k)
    → ((c k : ℕ) → c < sink.channels → from ≤ k → k < n → kept_at kept c k ≡ sum_of samples (sample_spec sink) (streams_of front) k c)
    → ((c k : ℕ) → c < sink.channels → from ≤ k → k < n → AllByRecursion (λ x. IsSumOf 1 (share_in sink (Stands.stream x) c k)) front)
    → AreSmall 258 kept
so_far_small sink from n all front start kept before few less_few channels frames low high little c k fed less =
    let inside : c < sink.channels = omega (arith, fed, channels) in
    ⊎_elim
    (λ (under : k < from).
    subst (IsSumOf 258) (sym (low c k inside under)) (fewer (length all) 258 (kept_at start c k) (omega (arith, few)) (follows.bounded samples (sample_spec sink) from all (kept_at start) before c k inside under)))
    (λ (over : from ≤ k).
    let there : k < n = omega (arith, less, frames) in
    subst (IsSumOf 258) (sym (high c k inside over there ∙ follows.sum_added samples (sample_spec sink) front k c))
    (fewer (length front) 258 _ (omega (arith, less_few)) (added_range (λ s. share_at samples (sample_spec sink) s c k) front (little c k inside over there))))
    (cases_lt k from)

-- at the end they are kept sums of all frames
pub all_kept : (sink : Spec) (from : ℕ) (all : List Stands) (start kept : KeptSums) → AreKept samples (sample_spec sink) from all (kept_at start) → length kept.runs ≡ sink.channels
    → ((c k : ℕ) → c < sink.channels → k < from → kept_at kept c k ≡ kept_at start c k)
    → ((c k : ℕ) → c < sink.channels → from ≤ k → k < kept.frames → kept_at kept c k ≡ sum_of samples (sample_spec sink) (streams_of all) k c)
    → ((c k : ℕ) → c < sink.channels → from ≤ k → k < kept.frames → AllByRecursion (λ x. IsSumOf 1 (share_in sink (Stands.stream x) c k)) all)
    → IsKept sink all kept
all_kept sink from all start kept before channels low high little = record {
  channels = channels;
  sums = record {
    sums = λ c k fed less. ⊎_elim (λ (under : k < from). low c k fed under ∙ before.sums c k fed under) (λ (over : from ≤ k). high c k fed over less) (cases_lt k from);
    little = by_input sink from kept.frames all little before.little;
  };
}

-- one more input
pub front_more : (items : List Input) (i : ℕ) (x : Input) → i < length items → x ≡ get_or items i x → inputs_of (take (i + 1) items) ≡ inputs_of (take i items) ++ input_of x ∷ []
front_more items i x less is = ap inputs_of (take_more items i x less ∙ ap (λ (y : Input). take i items ++ y ∷ []) (sym is)) ∙ map-append input_of (take i items) (x ∷ [])

length_inputs : (items : List Input) → length (inputs_of items) ≡ length items
length_inputs [] = refl
length_inputs (x ∷ items) = ap suc (length_inputs items)

pub front_few : (items : List Input) (i : ℕ) → length (inputs_of items) ≤ 256 → length (inputs_of (take i items)) ≤ 256
front_few items i few = omega (arith, few, length_inputs (take i items), length_inputs items, length-take i items)

pub front_all : (items : List Input) (i : ℕ) → length items ≤ i → inputs_of (take i items) ≡ inputs_of items
front_all items i past = ap inputs_of (take_all i items past)

-- behind which frames come
pub extended_kept : (sink : Spec) (inputs : List Stands) (from : ℕ) (start kept : KeptSums) → from ≡ start.frames → IsKept sink inputs start
    → ((c k : ℕ) → c < length start.runs → kept_at kept c k ≡ kept_at start c k) → AreKept samples (sample_spec sink) from inputs (kept_at kept)
extended_kept sink inputs from start kept same h sums = record {
  sums = λ c k fed less. sums c k (omega (arith, fed, h.channels)) ∙ h.sums.sums c k fed (omega (arith, less, same));
  little = subst (λ (n : ℕ). AddLittle samples (sample_spec sink) n inputs) (sym same) h.sums.little;
}
