-- Kept sums, as they follow a stream that is altered in a stretch.
use Rattle.std.proofs.Common.{◌≡◌, ℕ, ◌+◌, ◌<◌, ◌≤◌, ◌⊎◌, inl, inr, List, length, Bool, true, false, Option, None, Some, refl, ap, sym, ◌∙◌, subst, arith, ⊎_elim, ℤ, pos, ◌+ℤ◌, ◌-ℤ◌}
use Rattle.std.specs.Prelude.{nat_lt}
use Rattle.std.proofs.lemmas.Int.{ints}
use Rattle.std.proofs.lemmas.Bool.{cases_lt, cond-false, le-ltb}
use Rattle.px_sample.specs.declared.spec.Spec.{Spec}
use Rattle.px_msg.specs.View.{sample_spec}
use Rattle.px_model.specs.Stream.{Stream}
use Rattle.px_model.specs.Sink.{Input, IsRising, stream_at, with_change}
use Rattle.px_mixcache.specs.Cache.{KeptSums, kept_at}
use Rattle.px_stream.specs.Samples.{samples}
use Rattle.px_kept_mix.specs.Kept.{IsSumOf, AddsLittleThere, changed_there, from_on, between, share_there}
use Rattle.px_kept_mix.proofs.Follows as follows
use Rattle.px_kept_mix.specs.Keeping.{IsKept, IsAsLarge, AreSmall, SharesBetweenThere, AreLittleThere, SoundsOutside}
use Rattle.px_kept_mix.proofs.Ranges.{one_more}
use Rattle.px_kept_mix.proofs.Reading.{inside_both}
use Rattle.px_kept_mix.proofs.Spanned.{below_both, past_both}
use Rattle.px_kept_mix.proofs.Sounding.{share_same}
use Rattle.px_kept_mix.proofs.Exchanging.{none_little, there_little, again, little_there}

-- ---- in range

part_little : (sink : Spec) (s : Option Stream) (from to c k : ℕ) → AreLittleThere sink s from to → c < sink.channels → IsSumOf 1 (between from to k (share_there samples (sample_spec sink) s c k))
part_little sink s from to c k little fed =
    ⊎_elim
    (λ (low : k < from). subst (IsSumOf 1) (sym (below_both from to k (share_there samples (sample_spec sink) s c k) low)) (none_little 1))
    (λ (high : from ≤ k). ⊎_elim
    (λ (less : k < to). subst (IsSumOf 1) (sym (inside_both from to k (share_there samples (sample_spec sink) s c k) high less)) (there_little sink s from to c k little fed high less))
    (λ (past : to ≤ k). subst (IsSumOf 1) (sym (past_both from to k (share_there samples (sample_spec sink) s c k) past)) (none_little 1))
    (cases_lt k to))
    (cases_lt k from)

pub one_more_between : (add : Bool) (sink : Spec) (s : Option Stream) (from to n : ℕ) (before after : KeptSums) → AreSmall n before → IsAsLarge before after
    → length before.runs ≡ sink.channels → SharesBetweenThere add sink s from to before after → AreLittleThere sink s from to → AreSmall (n + 1) after
one_more_between add sink s from to n before after h large channels shares little c k fed less =
    let inside : c < length before.runs = omega (arith, fed, large.channels) in
    let there : k < before.frames = omega (arith, less, large.frames) in
    subst (IsSumOf (n + 1)) (sym (shares c k inside there))
    (one_more n add (kept_at before c k) (between from to k (share_there samples (sample_spec sink) s c k)) (h c k inside there)
    (part_little sink s from to c k little (omega (arith, inside, channels))))

-- ---- exchanges

same_outside : (sink : Spec) (s : Option Stream) (n from to : ℕ) (f : Stream → Stream) → SoundsOutside n from to f s → (c k : ℕ) → k < n → (k < from) ⊎ (to ≤ k)
    → share_there samples (sample_spec sink) (changed_there f s) c k ≡ share_there samples (sample_spec sink) s c k
same_outside sink None n from to f h c k less out = refl
same_outside sink (Some s) n from to f h c k less out = share_same (sample_spec sink) k s (f s) (h k less out) c

pub changed_little : (sink : Spec) (s : Option Stream) (n from to : ℕ) (f : Stream → Stream) → SoundsOutside n from to f s → AddsLittleThere samples (sample_spec sink) n s
    → AreLittleThere sink (changed_there f s) from to → AddsLittleThere samples (sample_spec sink) n (changed_there f s)
changed_little sink None n from to f sounds h little = tt
changed_little sink (Some s) n from to f sounds h little = λ c k fed less.
    ⊎_elim
    (λ (low : k < from). subst (IsSumOf 1) (sym (share_same (sample_spec sink) k s (f s) (sounds k less (inl low)) c)) (h c k fed less))
    (λ (high : from ≤ k). ⊎_elim
    (λ (early : k < to). little c k fed high early)
    (λ (past : to ≤ k). subst (IsSumOf 1) (sym (share_same (sample_spec sink) k s (f s) (sounds k less (inr past)) c)) (h c k fed less))
    (cases_lt k to))
    (cases_lt k from)

-- an exchange of the whole is one of the stretch, where both are the same outside it
same_exchanged : (s g x : ℤ) → x ≡ g → (s -ℤ pos 0) +ℤ pos 0 ≡ (s -ℤ g) +ℤ x
same_exchanged s g x e = omega (arith, ints, e)

on_all : (k : ℕ) (s g x : ℤ) → (s -ℤ from_on 0 k g) +ℤ from_on 0 k x ≡ (s -ℤ g) +ℤ x
on_all k s g x =
    λ i. (s -ℤ cond-false (nat_lt k 0) (pos 0) g (le-ltb k 0 (omega arith)) i) +ℤ cond-false (nat_lt k 0) (pos 0) x (le-ltb k 0 (omega arith)) i

exchanged : (from to k : ℕ) (s g x : ℤ) → ((k < from) ⊎ (to ≤ k) → x ≡ g) → (s -ℤ between from to k g) +ℤ between from to k x ≡ (s -ℤ g) +ℤ x
exchanged from to k s g x same =
    ⊎_elim
    (λ (low : k < from). (λ i. (s -ℤ below_both from to k g low i) +ℤ below_both from to k x low i) ∙ same_exchanged s g x (same (inl low)))
    (λ (high : from ≤ k). ⊎_elim
    (λ (less : k < to). λ i. (s -ℤ inside_both from to k g high less i) +ℤ inside_both from to k x high less i)
    (λ (past : to ≤ k). (λ i. (s -ℤ past_both from to k g past i) +ℤ past_both from to k x past i) ∙ same_exchanged s g x (same (inr past)))
    (cases_lt k to))
    (cases_lt k from)

pub changes_between : (sink : Spec) (inputs : List Input) (i from to : ℕ) (f : Stream → Stream) (before middle after : KeptSums)
    → IsKept sink inputs before → IsRising inputs → SoundsOutside before.frames from to f (stream_at i inputs)
    → IsAsLarge before middle → SharesBetweenThere false sink (stream_at i inputs) from to before middle
    → IsAsLarge middle after → SharesBetweenThere true sink (changed_there f (stream_at i inputs)) from to middle after
    → AreLittleThere sink (changed_there f (stream_at i inputs)) from to → IsKept sink (with_change i f inputs) after
changes_between sink inputs i from to f before middle after h rising sounds first out second into little =
    again sink (with_change i f inputs) before middle after h.channels first second
    (follows.changed samples (sample_spec sink) before.frames 0 i f inputs (kept_at before) (kept_at after) h.sums rising
    (changed_little sink (stream_at i inputs) before.frames from to f sounds (little_there (sample_spec sink) before.frames i inputs h.sums.little) little)
    (λ c k fed none. absurd (omega (arith, none)))
    (λ c k fed less.
    into c k (omega (arith, fed, h.channels, first.channels)) (omega (arith, less, first.frames))
    ∙ ap (λ (z : ℤ). z +ℤ between from to k (share_there samples (sample_spec sink) (changed_there f (stream_at i inputs)) c k)) (out c k (omega (arith, fed, h.channels)) less)
    ∙ exchanged from to k (kept_at before c k) (share_there samples (sample_spec sink) (stream_at i inputs) c k) (share_there samples (sample_spec sink) (changed_there f (stream_at i inputs)) c k)
    (same_outside sink (stream_at i inputs) before.frames from to f sounds c k less)
    ∙ sym (on_all k (kept_at before c k) (share_there samples (sample_spec sink) (stream_at i inputs) c k) (share_there samples (sample_spec sink) (changed_there f (stream_at i inputs)) c k))))
