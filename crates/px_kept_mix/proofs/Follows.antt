-- Kept sums follow their streams.
use Rattle.std.proofs.Common.{◌≡◌, ℕ, ◌+◌, ◌-◌, ◌<◌, ◌≤◌, List, [], ◌∷◌, ◌++◌, length, map, true, false, Option, None, Some, refl, ap, sym, ◌∙◌, subst, arith, ⊎_elim, ℤ, pos, ◌+ℤ◌, ◌-ℤ◌}
use Rattle.std.specs.Prelude.{nat_lt, ◌==◌}
use Rattle.std.specs.List.{fold, AllByRecursion}
use Rattle.std.proofs.lemmas.Int.{ints}
use Rattle.std.proofs.lemmas.Bool.{cases_Bool, cases_lt, cond-true, cond-false, lt-ltb, le-ltb, eqb-true}
use Rattle.std.proofs.lemmas.List.{map-append}
use Rattle.std.proofs.lemmas.List.Sums.{fold-append}
use Rattle.px_model.specs.Frame.{SampleSpec}
use Rattle.px_model.specs.Stream.{Stream, IsStream}
use Rattle.px_model.specs.Going.{after}
use Rattle.px_model.specs.Mix.{Samples, sum_of}
use Rattle.px_model.specs.Sink.{Input, AllAbove, IsRising, streams_of, stream_at, with_stream, with_change, with_input, without_input}
use Rattle.px_model.specs.Turn.{asked_stream}
use Rattle.px_model.proofs.Inputs.{with_keeps, without_keeps}
use Rattle.px_kept_mix.specs.Kept.{share_at, share_there, IsSumOf, AddsLittle, AddLittle, AddsLittleThere, AreKept, Exchanges, SameBefore, changed_there}
use Rattle.px_kept_mix.proofs.Added.{added, there, fold_added, added_range, added_changed, added_come, added_left, added_each, above_same}
use Rattle.px_kept_mix.proofs.Shares.{gone_share, asked_share}

module _ (samples : Samples) (sink : SampleSpec) where
  pub sum_added : (xs : List Input) (k channel : ℕ) → sum_of samples sink (streams_of xs) k channel ≡ added (λ s. share_at samples sink s channel k) xs
  sum_added xs k channel = fold_added (λ s. share_at samples sink s channel k) xs

  there_is : (o : Option Stream) (channel k : ℕ) → there (λ s. share_at samples sink s channel k) o ≡ share_there samples sink o channel k
  there_is None channel k = refl
  there_is (Some s) channel k = refl

  -- ---- in range

  little_at : (n channel k : ℕ) → channel < sink.channels → k < n → (xs : List Input) → AddLittle samples sink n xs → AllByRecursion (λ x. IsSumOf 1 (share_at samples sink (Input.stream x) channel k)) xs
  little_at n channel k inside l [] h = tt
  little_at n channel k inside l (x ∷ xs) h = (h.0 channel k inside l, little_at n channel k inside l xs h.1)

  pub bounded : (n : ℕ) (inputs : List Input) (kept : ℕ → ℕ → ℤ) → AreKept samples sink n inputs kept → (channel k : ℕ) → channel < sink.channels → k < n → IsSumOf (length inputs) (kept channel k)
  bounded n inputs kept h channel k inside l =
      subst (IsSumOf (length inputs)) (sym (h.sums channel k inside l ∙ sum_added inputs k channel))
      (added_range (λ s. share_at samples sink s channel k) inputs (little_at n channel k inside l inputs h.little))

  -- ---- going on

  gone_each : (d k channel : ℕ) (xs : List Input) → AllByRecursion (λ x. IsStream (Input.stream x)) xs
      → AllByRecursion (λ x. share_at samples sink (after (Input.stream x) d) channel k ≡ share_at samples sink (Input.stream x) channel (d + k)) xs
  gone_each d k channel [] h = tt
  gone_each d k channel (x ∷ xs) h = (gone_share samples sink x.stream h.0 d k channel, gone_each d k channel xs h.1)

  gone_little : (n d : ℕ) (xs : List Input) → AllByRecursion (λ x. IsStream (Input.stream x)) xs → AddLittle samples sink n xs → AddLittle samples sink (n - d) (map (with_stream (λ s. after s d)) xs)
  gone_little n d [] h little = tt
  gone_little n d (x ∷ xs) h little = (
    λ channel k inside l. subst (IsSumOf 1) (sym (gone_share samples sink x.stream h.0 d k channel)) (little.0 channel (d + k) inside (omega (arith, l))),
    gone_little n d xs h.1 little.1,
  )

  pub forward : (n : ℕ) (inputs : List Input) (kept : ℕ → ℕ → ℤ) → AreKept samples sink n inputs kept → AllByRecursion (λ x. IsStream (Input.stream x)) inputs → (d : ℕ)
      → AreKept samples sink (n - d) (map (with_stream (λ s. after s d)) inputs) (λ channel k. kept channel (d + k))
  forward n inputs kept h streams d = record {
    sums = λ channel k inside l.
        h.sums channel (d + k) inside (omega (arith, l))
        ∙ sum_added inputs (d + k) channel
        ∙ sym (added_each (λ s. share_at samples sink s channel (d + k)) (λ s. share_at samples sink s channel k) (λ s. after s d) inputs (gone_each d k channel inputs streams))
        ∙ sym (sum_added (map (with_stream (λ s. after s d)) inputs) k channel);
    little = gone_little n d inputs streams h.little;
  }

  asked_each : (mixed k channel : ℕ) (xs : List Input) → AllByRecursion (λ x. share_at samples sink (asked_stream mixed (Input.stream x)) channel k ≡ share_at samples sink (Input.stream x) channel k) xs
  asked_each mixed k channel [] = tt
  asked_each mixed k channel (x ∷ xs) = (asked_share samples sink x.stream mixed k channel, asked_each mixed k channel xs)

  asked_little : (n mixed : ℕ) (xs : List Input) → AddLittle samples sink n xs → AddLittle samples sink n (map (with_stream (asked_stream mixed)) xs)
  asked_little n mixed [] little = tt
  asked_little n mixed (x ∷ xs) little = (
    λ channel k inside l. subst (IsSumOf 1) (sym (asked_share samples sink x.stream mixed k channel)) (little.0 channel k inside l),
    asked_little n mixed xs little.1,
  )

  pub asked : (n : ℕ) (inputs : List Input) (kept : ℕ → ℕ → ℤ) → AreKept samples sink n inputs kept → (mixed : ℕ) → AreKept samples sink n (map (with_stream (asked_stream mixed)) inputs) kept
  asked n inputs kept h mixed = record {
    sums = λ channel k inside l.
        h.sums channel k inside l
        ∙ sum_added inputs k channel
        ∙ sym (added_each (λ s. share_at samples sink s channel k) (λ s. share_at samples sink s channel k) (asked_stream mixed) inputs (asked_each mixed k channel inputs))
        ∙ sym (sum_added (map (with_stream (asked_stream mixed)) inputs) k channel);
    little = asked_little n mixed inputs h.little;
  }

  -- one more
  pub more : (inputs : List Input) (x : Input) (k channel : ℕ)
      → sum_of samples sink (streams_of (inputs ++ x ∷ [])) k channel ≡ sum_of samples sink (streams_of inputs) k channel +ℤ share_at samples sink x.stream channel k
  more inputs x k channel =
      ap (λ (ss : List Stream). sum_of samples sink ss k channel) (map-append (λ y. Input.stream y) inputs (x ∷ []))
      ∙ ap (λ (zs : List ℤ). fold ◌+ℤ◌ (pos 0) zs) (map-append (λ s. share_at samples sink s channel k) (streams_of inputs) (x.stream ∷ []))
      ∙ fold-append ◌+ℤ◌ (pos 0) (map (λ s. share_at samples sink s channel k) (streams_of inputs)) (map (λ s. share_at samples sink s channel k) (x.stream ∷ []))

  -- ---- an exchange

  before_place : (s g c : ℤ) → c ≡ g → (s -ℤ pos 0) +ℤ pos 0 ≡ (s -ℤ g) +ℤ c
  before_place s g c e = omega (arith, ints, e)

  pub exchanged : (n from : ℕ) (gone come : Option Stream) (inputs new : List Input) (kept kept' : ℕ → ℕ → ℤ) → AreKept samples sink n inputs kept
      → SameBefore samples sink from gone come → Exchanges samples sink n from gone come kept kept'
      → ((k channel : ℕ) → sum_of samples sink (streams_of new) k channel ≡ (sum_of samples sink (streams_of inputs) k channel -ℤ share_there samples sink gone channel k) +ℤ share_there samples sink come channel k)
      → AddLittle samples sink n new → AreKept samples sink n new kept'
  exchanged n from gone come inputs new kept kept' h same swap sums little = record {
    sums = λ channel k inside l.
        swap channel k inside l
        ∙ ⊎_elim
        (λ (low : k < from).
        (λ i. (kept channel k -ℤ cond-true (nat_lt k from) (pos 0) (share_there samples sink gone channel k) (lt-ltb k from low) i) +ℤ cond-true (nat_lt k from) (pos 0) (share_there samples sink come channel k) (lt-ltb k from low) i)
        ∙ before_place (kept channel k) (share_there samples sink gone channel k) (share_there samples sink come channel k) (same channel k inside low))
        (λ (high : from ≤ k).
        λ i. (kept channel k -ℤ cond-false (nat_lt k from) (pos 0) (share_there samples sink gone channel k) (le-ltb k from high) i) +ℤ cond-false (nat_lt k from) (pos 0) (share_there samples sink come channel k) (le-ltb k from high) i)
        (cases_lt k from)
        ∙ ap (λ (z : ℤ). (z -ℤ share_there samples sink gone channel k) +ℤ share_there samples sink come channel k) (h.sums channel k inside l)
        ∙ sym (sums k channel);
    little = little;
  }

  -- the sums after a change, in the words of the definition
  restated : (a : ℤ) (inputs : List Input) (gone come : Option Stream) (k channel : ℕ)
      → a ≡ (added (λ s. share_at samples sink s channel k) inputs -ℤ there (λ s. share_at samples sink s channel k) gone) +ℤ there (λ s. share_at samples sink s channel k) come
      → a ≡ (sum_of samples sink (streams_of inputs) k channel -ℤ share_there samples sink gone channel k) +ℤ share_there samples sink come channel k
  restated a inputs gone come k channel e =
      e
      ∙ (λ i. (sym (sum_added inputs k channel) i -ℤ there_is gone channel k i) +ℤ there_is come channel k i)

  -- ---- one is changed, comes or leaves

  changed_little : (n i : ℕ) (f : Stream → Stream) (xs : List Input) → IsRising xs → AddsLittleThere samples sink n (changed_there f (stream_at i xs)) → AddLittle samples sink n xs → AddLittle samples sink n (with_change i f xs)
  changed_little n i f [] rising comes little = tt
  changed_little n i f (x ∷ xs) rising comes little =
      ⊎_elim
      (λ (yes : (x.index == i) ≡ true). (
        subst (λ (y : Input). AddsLittle samples sink n y.stream) (sym (cond-true (x.index == i) (with_stream f x) x yes))
            (subst (λ (o : Option Stream). AddsLittleThere samples sink n (changed_there f o)) (cond-true (x.index == i) (Some x.stream) (stream_at i xs) yes) comes),
        subst (AddLittle samples sink n) (sym (above_same i f xs (subst (λ (j : ℕ). AllAbove j xs) (eqb-true x.index i yes) rising.0))) little.1,
      ))
      (λ (no : (x.index == i) ≡ false). (
        subst (λ (y : Input). AddsLittle samples sink n y.stream) (sym (cond-false (x.index == i) (with_stream f x) x no)) little.0,
        changed_little n i f xs rising.1 (subst (λ (o : Option Stream). AddsLittleThere samples sink n (changed_there f o)) (cond-false (x.index == i) (Some x.stream) (stream_at i xs) no) comes) little.1,
      ))
      (cases_Bool (x.index == i))

  pub changed : (n from i : ℕ) (f : Stream → Stream) (inputs : List Input) (kept new : ℕ → ℕ → ℤ) → AreKept samples sink n inputs kept → IsRising inputs
      → AddsLittleThere samples sink n (changed_there f (stream_at i inputs))
      → SameBefore samples sink from (stream_at i inputs) (changed_there f (stream_at i inputs))
      → Exchanges samples sink n from (stream_at i inputs) (changed_there f (stream_at i inputs)) kept new
      → AreKept samples sink n (with_change i f inputs) new
  changed n from i f inputs kept new h rising comes same swap =
      exchanged n from (stream_at i inputs) (changed_there f (stream_at i inputs)) inputs (with_change i f inputs) kept new h same swap
      (λ k channel. sum_added (with_change i f inputs) k channel
      ∙ restated (added (λ s. share_at samples sink s channel k) (with_change i f inputs)) inputs (stream_at i inputs) (changed_there f (stream_at i inputs)) k channel
      (added_changed (λ s. share_at samples sink s channel k) i f inputs rising))
      (changed_little n i f inputs rising comes h.little)

  pub comes : (n i : ℕ) (s : Stream) (inputs : List Input) (kept new : ℕ → ℕ → ℤ) → AreKept samples sink n inputs kept → IsRising inputs
      → AddsLittle samples sink n s → Exchanges samples sink n 0 (stream_at i inputs) (Some s) kept new
      → AreKept samples sink n (with_input i s inputs) new
  comes n i s inputs kept new h rising little swap =
      exchanged n 0 (stream_at i inputs) (Some s) inputs (with_input i s inputs) kept new h (λ channel k inside l. absurd (omega (arith, l))) swap
      (λ k channel. sum_added (with_input i s inputs) k channel
      ∙ restated (added (λ t. share_at samples sink t channel k) (with_input i s inputs)) inputs (stream_at i inputs) (Some s) k channel
      (added_come (λ t. share_at samples sink t channel k) i s inputs rising))
      (with_keeps (AddsLittle samples sink n) i s inputs little (record { rising = rising; streams = h.little })).streams

  pub leaves : (n i : ℕ) (inputs : List Input) (kept new : ℕ → ℕ → ℤ) → AreKept samples sink n inputs kept → IsRising inputs
      → Exchanges samples sink n 0 (stream_at i inputs) None kept new
      → AreKept samples sink n (without_input i inputs) new
  leaves n i inputs kept new h rising swap =
      exchanged n 0 (stream_at i inputs) None inputs (without_input i inputs) kept new h (λ channel k inside l. absurd (omega (arith, l))) swap
      (λ k channel. sum_added (without_input i inputs) k channel
      ∙ restated (added (λ t. share_at samples sink t channel k) (without_input i inputs)) inputs (stream_at i inputs) None k channel
      (added_left (λ t. share_at samples sink t channel k) i inputs rising))
      (without_keeps (AddsLittle samples sink n) i inputs (record { rising = rising; streams = h.little })).streams
