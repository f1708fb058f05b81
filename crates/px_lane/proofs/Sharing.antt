-- Shares of the inputs of a sink.
use Rattle.std.proofs.Common.{◌≡◌, ℕ, zero, suc, ◌<◌, ◌≤◌, List, [], ◌∷◌, length, map, get_or, Bool, true, false, cond, Option, Some, None, refl, sym, ◌∙◌, ap, arith, ⊎_elim, ℤ, pos}
use Rattle.std.specs.Prelude.{nat_lt, ◌==◌}
use Rattle.std.proofs.lemmas.Int.{ints}
use Rattle.std.proofs.lemmas.Bool.{cases_Bool, cond-true, cond-false, cond_both}
use Rattle.px_sample.specs.declared.spec.Spec.{Spec}
use Rattle.px_msg.specs.View.{sample_spec}
use Rattle.px_model.specs.Stream.{Stream}
use Rattle.px_model.specs.Going.{after}
use Rattle.px_model.specs.Control.{with_factors}
use Rattle.px_model.specs.Sink.{Input as Stands, IsRising, stream_at, with_stream, with_change, with_input}
use Rattle.px_kernel.specs.Kernel.{changed}
use Rattle.px_mixcache.specs.Cache.{KeptSums, kept_at}
use Rattle.px_kept_mix.specs.Kept.{from_on, between, AddLittle, changed_there}
use Rattle.px_kept_mix.specs.Keeping.{SharesThere, SharesBetweenThere, AreSmall, IsKept, SoundsBefore}
use Rattle.px_stream.specs.Heard.{SoundsSame}
use Rattle.px_stream.specs.HeldStream.{HeldStream}
use Rattle.px_stream.specs.Samples.{samples}
use Rattle.px_lane.specs.declared.input.Input.{Input}
use Rattle.px_lane.specs.Inputs.{inputs_of}
use Rattle.px_lane.specs.Mixed.{CanMix}
use Rattle.px_lane.specs.Taking.{AreFed}
use Rattle.px_lane.proofs.Feeds.{after_fed}

-- the stream at a place is fed into as many channels as each
pub fed_at : (channels : ℕ) (items : List Input) (i : ℕ) (d : Input) → AreFed channels (inputs_of items) → i < length items
    → length (HeldStream.stream (Input.stream (get_or items i d))).feed ≡ channels
fed_at channels [] i d all less = absurd (omega (arith, less))
fed_at channels (x ∷ items) zero d all less = all.0
fed_at channels (x ∷ items) (suc i) d all less = fed_at channels items i d all.1 (omega (arith, less))

-- where there is no stream, nothing is added or taken away
none_changed : (add : Bool) (z : ℤ) → z ≡ changed add z (pos 0)
none_changed true z = omega (arith, ints)
none_changed false z = omega (arith, ints)

none_from : (from k : ℕ) → pos 0 ≡ from_on from k (pos 0)
none_from from k = cond_both (nat_lt k from) (pos 0) (pos 0) (λ z. pos 0 ≡ z) (λ e. refl) (λ e. refl)

pub nothing_shared : (add : Bool) (sink : Spec) (from : ℕ) (kept : KeptSums) → SharesThere add sink None from kept kept
nothing_shared add sink from kept c k fed less = none_changed add (kept_at kept c k) ∙ ap (λ (z : ℤ). changed add (kept_at kept c k) z) (none_from from k)

none_between : (from to k : ℕ) → pos 0 ≡ between from to k (pos 0)
none_between from to k = cond_both (nat_lt k to) (from_on from k (pos 0)) (pos 0) (λ z. pos 0 ≡ z) (λ e. none_from from k) (λ e. refl)

pub nothing_shared_between : (add : Bool) (sink : Spec) (from to : ℕ) (kept : KeptSums) → SharesBetweenThere add sink None from to kept kept
nothing_shared_between add sink from to kept c k fed less = none_changed add (kept_at kept c k) ∙ ap (λ (z : ℤ). changed add (kept_at kept c k) z) (none_between from to k)

-- ---- room

pub roomy : (n : ℕ) (kept : KeptSums) → n ≤ 258 → AreSmall n kept → AreSmall 258 kept
roomy n kept few h c k fed less = let there = h c k fed less in record { low = omega (arith, ints, there.low, few); high = omega (arith, ints, there.high, few) }

-- ---- inputs that are mixed

fed_each : (channels : ℕ) (f : Stream → Stream) → ((s : Stream) → length (Stream.feed (f s)) ≡ length s.feed) → (xs : List Stands) → AreFed channels xs → AreFed channels (map (with_stream f) xs)
fed_each channels f same [] h = tt
fed_each channels f same (x ∷ xs) h = (same x.stream ∙ h.0, fed_each channels f same xs h.1)

length_each : (f : Stream → Stream) (xs : List Stands) → length (map (with_stream f) xs) ≡ length xs
length_each f [] = refl
length_each f (x ∷ xs) = ap suc (length_each f xs)

pub can_mix_each : (channels : ℕ) (f : Stream → Stream) → ((s : Stream) → length (Stream.feed (f s)) ≡ length s.feed) → (xs : List Stands) → CanMix channels xs → CanMix channels (map (with_stream f) xs)
can_mix_each channels f same xs h = record { fed = fed_each channels f same xs h.fed; few = omega (arith, length_each f xs, h.few) }

after_feed : (d : ℕ) (s : Stream) → length (Stream.feed (after s d)) ≡ length s.feed
after_feed d s = after_fed (length s.feed) d s refl

pub can_mix_gone : (channels d : ℕ) (xs : List Stands) → CanMix channels xs → CanMix channels (map (with_stream (λ s. after s d)) xs)
can_mix_gone channels d xs h = can_mix_each channels (λ s. after s d) (after_feed d) xs h

-- ---- kept sums

pub none_kept : (sink : Spec) (inputs : List Stands) (kept : KeptSums) → length kept.runs ≡ sink.channels → kept.frames ≡ 0 → IsKept sink inputs kept
none_kept sink inputs kept channels none = record {
  channels = channels;
  sums = record {
    sums = λ c k fed less. absurd (omega (arith, less, none));
    little = nothing_added inputs;
  };
}
  where
    nothing_added : (xs : List Stands) → AddLittle samples (sample_spec sink) kept.frames xs
    nothing_added [] = tt
    nothing_added (x ∷ xs) = (λ c k fed less. absurd (omega (arith, less, none)), nothing_added xs)

-- a stream that sounds as before up to a place, if it is there
pub sounds_there : (from : ℕ) (f : Stream → Stream) (o : Option Stream) → ((k : ℕ) (s : Stream) → k < from → o ≡ Some s → SoundsSame k s (f s)) → SoundsBefore from f o
sounds_there from f None h = tt
sounds_there from f (Some s) h = λ k less. h k s less refl

-- the stream of an input that is changed
pub changed_at_index : (i : ℕ) (f : Stream → Stream) (xs : List Stands) → stream_at i (with_change i f xs) ≡ changed_there f (stream_at i xs)
changed_at_index i f [] = refl
changed_at_index i f (x ∷ xs) =
    ⊎_elim
    (λ (yes : (x.index == i) ≡ true).
    ap (λ (y : Stands). cond (y.index == i) (Some y.stream) (stream_at i (with_change i f xs))) (cond-true (x.index == i) (with_stream f x) x yes)
    ∙ cond-true (x.index == i) (Some (f x.stream)) (stream_at i (with_change i f xs)) yes
    ∙ sym (ap (changed_there f) (cond-true (x.index == i) (Some x.stream) (stream_at i xs) yes)))
    (λ (no : (x.index == i) ≡ false).
    ap (λ (y : Stands). cond (y.index == i) (Some y.stream) (stream_at i (with_change i f xs))) (cond-false (x.index == i) (with_stream f x) x no)
    ∙ cond-false (x.index == i) (Some x.stream) (stream_at i (with_change i f xs)) no
    ∙ changed_at_index i f xs
    ∙ sym (ap (changed_there f) (cond-false (x.index == i) (Some x.stream) (stream_at i xs) no)))
    (cases_Bool (x.index == i))

-- new factors leave inputs fed
pub fed_factors : (channels : ℕ) (factors : List ℕ) (i : ℕ) (xs : List Stands) → AreFed channels xs → AreFed channels (with_change i (λ s. with_factors s factors) xs)
fed_factors channels factors i [] h = tt
fed_factors channels factors i (x ∷ xs) h =
    (cond_both (x.index == i) (with_stream (λ s. with_factors s factors) x) x (λ y. length (Stream.feed (Stands.stream y)) ≡ channels) (λ e. h.0) (λ e. h.0), fed_factors channels factors i xs h.1)

length_change : (i : ℕ) (f : Stream → Stream) (xs : List Stands) → length (with_change i f xs) ≡ length xs
length_change i f [] = refl
length_change i f (x ∷ xs) = ap suc (length_change i f xs)

pub can_mix_factors : (channels : ℕ) (factors : List ℕ) (i : ℕ) (xs : List Stands) → IsRising xs → CanMix channels xs → CanMix channels (with_change i (λ s. with_factors s factors) xs)
can_mix_factors channels factors i xs rising h = record {
  fed = fed_factors channels factors i xs h.fed;
  few = omega (arith, length_change i (λ s. with_factors s factors) xs, h.few);
}

-- a stream that has come is fed as the others are
pub come_fed : (channels i : ℕ) (s : Stream) (xs : List Stands) → AreFed channels (with_input i s xs) → length s.feed ≡ channels
come_fed channels i s [] h = h.0
come_fed channels i s (x ∷ xs) h =
    by_place (nat_lt i x.index) (x.index == i) (come_fed channels i s xs) h
  where
    by_place : (low here : Bool) → (AreFed channels (with_input i s xs) → length s.feed ≡ channels)
        → AreFed channels (cond low (record { index = i; stream = s } ∷ (x ∷ xs)) (cond here (record { index = i; stream = s } ∷ xs) (x ∷ with_input i s xs))) → length s.feed ≡ channels
    by_place true here rest f = f.0
    by_place false true rest f = f.0
    by_place false false rest f = rest f.1
