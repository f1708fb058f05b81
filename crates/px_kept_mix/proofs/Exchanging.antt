-- Kept sums of a sink, as they follow its streams.
use Rattle.std.proofs.Common.{◌≡◌, ℕ, ◌+◌, ◌<◌, ◌≤◌, List, [], ◌∷◌, length, map, Bool, true, false, Option, None, Some, refl, ap, sym, ◌∙◌, subst, arith, ⊎_elim, ℤ, pos, ◌+ℤ◌}
use Rattle.std.specs.Prelude.{nat_lt, ◌==◌}
use Rattle.std.specs.List.{AllByRecursion}
use Rattle.std.proofs.lemmas.Int.{ints}
use Rattle.std.proofs.lemmas.Bool.{cases_lt, cond-true, cond-false, cond_both, lt-ltb, le-ltb}
use Rattle.px_sample.specs.declared.spec.Spec.{Spec}
use Rattle.px_msg.specs.View.{sample_spec}
use Rattle.px_model.specs.Frame.{SampleSpec}
use Rattle.px_model.specs.Stream.{Stream, IsStream}
use Rattle.px_model.specs.Going.{after}
use Rattle.px_model.specs.Sink.{Input, IsRising, stream_at, with_stream, with_change, with_input, without_input}
use Rattle.px_model.specs.Turn.{asked_stream}
use Rattle.px_mixcache.specs.Cache.{KeptSums, kept_at}
use Rattle.px_stream.specs.Samples.{samples}
use Rattle.px_kept_mix.specs.Kept.{IsSumOf, AddLittle, AddsLittleThere, AreKept, Exchanges, SameBefore, changed_there, from_on, share_there}
use Rattle.px_kept_mix.proofs.Follows as follows
use Rattle.px_kept_mix.specs.Keeping.{IsKept, IsAsLarge, AreSmall, SharesThere, AreLittle, AreLittleThere, SoundsBefore, GoesBy}
use Rattle.px_kept_mix.proofs.Ranges.{one_more}
use Rattle.px_kept_mix.proofs.Sounding.{share_same}

-- ---- in range

fewer : (n m : ℕ) (sum : ℤ) → n ≤ m → IsSumOf n sum → IsSumOf m sum
fewer n m sum few h = record { low = omega (arith, ints, h.low, few); high = omega (arith, ints, h.high, few) }

pub small : (sink : Spec) (inputs : List Input) (kept : KeptSums) → IsKept sink inputs kept → length inputs ≤ 256 → AreSmall 256 kept
small sink inputs kept h few c k fed less =
    fewer (length inputs) 256 (kept_at kept c k) few (follows.bounded samples (sample_spec sink) kept.frames inputs (kept_at kept) h.sums c k (omega (arith, fed, h.channels)) less)

pub none_little : (n : ℕ) → IsSumOf n (pos 0)
none_little n = record { low = omega (arith, ints); high = omega (arith, ints) }

pub there_little : (sink : Spec) (s : Option Stream) (from to c k : ℕ) → AreLittleThere sink s from to → c < sink.channels → from ≤ k → k < to → IsSumOf 1 (share_there samples (sample_spec sink) s c k)
there_little sink None from to c k h fed high less = none_little 1
there_little sink (Some s) from to c k h fed high less = h c k fed high less

pub one_more_small : (add : Bool) (sink : Spec) (s : Option Stream) (from n : ℕ) (before after : KeptSums) → AreSmall n before → IsAsLarge before after
    → length before.runs ≡ sink.channels → SharesThere add sink s from before after → AreLittleThere sink s from before.frames → AreSmall (n + 1) after
one_more_small add sink s from n before after h large channels shares little c k fed less =
    let inside : c < length before.runs = omega (arith, fed, large.channels) in
    let there : k < before.frames = omega (arith, less, large.frames) in
    let part : IsSumOf 1 (from_on from k (share_there samples (sample_spec sink) s c k)) =
    ⊎_elim
    (λ (low : k < from). subst (IsSumOf 1) (sym (cond-true (nat_lt k from) (pos 0) (share_there samples (sample_spec sink) s c k) (lt-ltb k from low))) (none_little 1))
    (λ (high : from ≤ k). subst (IsSumOf 1) (sym (cond-false (nat_lt k from) (pos 0) (share_there samples (sample_spec sink) s c k) (le-ltb k from high)))
    (there_little sink s from before.frames c k little (omega (arith, inside, channels)) high there))
    (cases_lt k from) in
    subst (IsSumOf (n + 1)) (sym (shares c k inside there)) (one_more n add (kept_at before c k) (from_on from k (share_there samples (sample_spec sink) s c k)) (h c k inside there) part)

-- ---- going on

pub forward : (sink : Spec) (inputs : List Input) (frames : ℕ) (before later : KeptSums) → IsKept sink inputs before
    → AllByRecursion (λ x. IsStream (Input.stream x)) inputs → GoesBy frames before later → IsKept sink (map (with_stream (λ s. after s frames)) inputs) later
forward sink inputs frames before later h streams goes =
    let went = follows.forward samples (sample_spec sink) before.frames inputs (kept_at before) h.sums streams frames in record {
      channels = goes.channels ∙ h.channels;
      sums = record {
        sums = λ c k fed less. goes.sums c k (omega (arith, fed, h.channels)) ∙ went.sums c k fed (omega (arith, less, goes.frames_left));
        little = subst (λ (n : ℕ). AddLittle samples (sample_spec sink) n (map (with_stream (λ s. after s frames)) inputs)) (sym goes.frames_left) went.little;
      };
    }

pub asked : (sink : Spec) (inputs : List Input) (mixed : ℕ) (kept : KeptSums) → IsKept sink inputs kept → IsKept sink (map (with_stream (asked_stream mixed)) inputs) kept
asked sink inputs mixed kept h = record { channels = h.channels; sums = follows.asked samples (sample_spec sink) kept.frames inputs (kept_at kept) h.sums mixed }

-- ---- exchanges

swapped : (sink : Spec) (left come : Option Stream) (from : ℕ) (before between after : KeptSums) → length before.runs ≡ sink.channels
    → IsAsLarge before between → SharesThere false sink left from before between → SharesThere true sink come from between after
    → Exchanges samples (sample_spec sink) before.frames from left come (kept_at before) (kept_at after)
swapped sink left come from before between after channels large out into c k fed less =
    into c k (omega (arith, fed, channels, large.channels)) (omega (arith, less, large.frames))
    ∙ ap (λ (z : ℤ). z +ℤ from_on from k (share_there samples (sample_spec sink) come c k)) (out c k (omega (arith, fed, channels)) less)

-- sums of as many frames
pub again : (sink : Spec) (inputs : List Input) (before between after : KeptSums) → length before.runs ≡ sink.channels → IsAsLarge before between → IsAsLarge between after
    → AreKept samples (sample_spec sink) before.frames inputs (kept_at after) → IsKept sink inputs after
again sink inputs before between after channels first second h = record {
  channels = second.channels ∙ first.channels ∙ channels;
  sums = subst (λ (n : ℕ). AreKept samples (sample_spec sink) n inputs (kept_at after)) (sym (second.frames ∙ first.frames)) h;
}

same_before : (sink : Spec) (s : Option Stream) (from : ℕ) (f : Stream → Stream) → SoundsBefore from f s → SameBefore samples (sample_spec sink) from s (changed_there f s)
same_before sink None from f h = λ c k fed less. refl
same_before sink (Some s) from f h = λ c k fed less. share_same (sample_spec sink) k s (f s) (h k less) c

pub little_there : (sink : SampleSpec) (n i : ℕ) (xs : List Input) → AddLittle samples sink n xs → AddsLittleThere samples sink n (stream_at i xs)
little_there sink n i [] h = tt
little_there sink n i (x ∷ xs) h = cond_both (x.index == i) (Some x.stream) (stream_at i xs) (AddsLittleThere samples sink n) (λ here. h.0) (λ there. little_there sink n i xs h.1)

changed_little : (sink : Spec) (s : Option Stream) (from n : ℕ) (f : Stream → Stream) → SoundsBefore from f s → AddsLittleThere samples (sample_spec sink) n s → AreLittleThere sink (changed_there f s) from n
    → AddsLittleThere samples (sample_spec sink) n (changed_there f s)
changed_little sink None from n f sounds h little = tt
changed_little sink (Some s) from n f sounds h little = λ c k fed less.
    ⊎_elim
    (λ (low : k < from). subst (IsSumOf 1) (sym (share_same (sample_spec sink) k s (f s) (sounds k low) c)) (h c k fed less))
    (λ (high : from ≤ k). little c k fed high less)
    (cases_lt k from)

pub changes : (sink : Spec) (inputs : List Input) (i from : ℕ) (f : Stream → Stream) (before between after : KeptSums)
    → IsKept sink inputs before → IsRising inputs → SoundsBefore from f (stream_at i inputs)
    → IsAsLarge before between → SharesThere false sink (stream_at i inputs) from before between
    → IsAsLarge between after → SharesThere true sink (changed_there f (stream_at i inputs)) from between after
    → AreLittleThere sink (changed_there f (stream_at i inputs)) from before.frames → IsKept sink (with_change i f inputs) after
changes sink inputs i from f before between after h rising sounds first out second into little =
    again sink (with_change i f inputs) before between after h.channels first second
    (follows.changed samples (sample_spec sink) before.frames from i f inputs (kept_at before) (kept_at after) h.sums rising
    (changed_little sink (stream_at i inputs) from before.frames f sounds (little_there (sample_spec sink) before.frames i inputs h.sums.little) little)
    (same_before sink (stream_at i inputs) from f sounds)
    (swapped sink (stream_at i inputs) (changed_there f (stream_at i inputs)) from before between after h.channels first out into))

pub comes : (sink : Spec) (inputs : List Input) (i : ℕ) (s : Stream) (before between after : KeptSums)
    → IsKept sink inputs before → IsRising inputs
    → IsAsLarge before between → SharesThere false sink (stream_at i inputs) 0 before between
    → IsAsLarge between after → SharesThere true sink (Some s) 0 between after
    → AreLittle sink s 0 before.frames → IsKept sink (with_input i s inputs) after
comes sink inputs i s before between after h rising first out second into little =
    again sink (with_input i s inputs) before between after h.channels first second
    (follows.comes samples (sample_spec sink) before.frames i s inputs (kept_at before) (kept_at after) h.sums rising
    (λ c k fed less. little c k fed (omega arith) less)
    (swapped sink (stream_at i inputs) (Some s) 0 before between after h.channels first out into))

-- one that isn't there changes nothing
none_put : (sink : Spec) (kept : KeptSums) → SharesThere true sink None 0 kept kept
none_put sink kept c k fed less =
    none_added (kept_at kept c k) ∙ ap (λ (z : ℤ). kept_at kept c k +ℤ z) (sym (cond-false (nat_lt k 0) (pos 0) (pos 0) (le-ltb k 0 (omega arith)))) where
      none_added : (z : ℤ) → z ≡ z +ℤ pos 0
      none_added z = omega (arith, ints)

pub leaves : (sink : Spec) (inputs : List Input) (i : ℕ) (before after : KeptSums) → IsKept sink inputs before → IsRising inputs
    → IsAsLarge before after → SharesThere false sink (stream_at i inputs) 0 before after → IsKept sink (without_input i inputs) after
leaves sink inputs i before after h rising large out =
    let same : IsAsLarge after after = record { depth = refl; frames = refl; channels = refl } in
    again sink (without_input i inputs) before after after h.channels large same
    (follows.leaves samples (sample_spec sink) before.frames i inputs (kept_at before) (kept_at after) h.sums rising
    (swapped sink (stream_at i inputs) None 0 before after after h.channels large out (none_put sink after)))
