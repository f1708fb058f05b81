-- Streams that sound as before are mixed as before.
use Rattle.std.proofs.Common.{◌≡◌, ℕ, zero, suc, ◌+◌, ◌<◌, ◌≤◌, ◌⊎◌, inl, inr, List, [], ◌∷◌, map, length, Bool, true, false, cond, Option, None, Some, refl, ap, sym, subst, ◌∙◌, arith, ⊎_elim}
use Rattle.std.specs.Prelude.{ℤ, pos, ◌+ℤ◌, nat_lt, ◌==◌, slice_index, flat_map, ⊤}
use Rattle.std.specs.Int.{saturate_signed}
use Rattle.std.specs.List.{fold, range_with_len, AllByRecursion}
use Rattle.std.proofs.lemmas.Bool.Decides.{nat_tests}
use Rattle.std.proofs.lemmas.Bool.{cases_Bool, cases_lt, cond-true, cond-false, lt-ltb, le-ltb, eqb-true}
use Rattle.px_model.specs.Frame.{Frame, SampleSpec, sample_of}
use Rattle.px_model.specs.Held.{place}
use Rattle.px_model.specs.Queue.{FrameAhead, nothing, silence, sound, sound_of, left_of, is_short}
use Rattle.px_model.specs.Stream.{Stream, IsStream, frame_at}
use Rattle.px_model.specs.Going.{after}
use Rattle.px_model.specs.Mix.{scaled, share_of, sum_of, mix_of}
use Rattle.px_model.specs.Sink.{Input, IsRising, AllAbove, IsStreamOf, streams_of, stream_at, with_stream, with_change}
use Rattle.px_model.proofs.Places.{place_past}
use Rattle.px_model.proofs.Streams.{frame_ahead, stream_by}
use Rattle.px_stream.specs.Samples.{samples}
use Rattle.px_stream.specs.Heard.{heard_at, SoundsSame}
use Rattle.px_model.specs.Message.{StreamMessage}
use Rattle.px_model.specs.Applied.{applied}
use Rattle.px_kept_mix.specs.Keeping.{SoundsBefore, SoundsOutside}
use Rattle.px_stream.proofs.Sounding.{unaltered_sounds}
use Rattle.px_lane.specs.Unaltered.{MixesSame}
use Rattle.px_lane.specs.Costs.{unaltered_there}

-- ---- a stream's share

-- what a frame that is heard adds to a sink channel
abbrev share_by : SampleSpec → SampleSpec → List ℕ → List ℕ → ℕ → Option Frame → ℤ
share_by sink spec feed factors channel None = pos 0
share_by sink spec feed factors channel (Some frame) =
    scaled (samples.to (samples.width spec.format) (samples.width sink.format) (samples.work spec.format (sample_of spec frame (slice_index feed channel)))) (slice_index factors channel)

sounded : (sink : SampleSpec) (s : Stream) (channel : ℕ) (o : Option Frame) → share_of samples sink s channel (sound_of o) ≡ share_by sink s.spec s.feed s.factors channel o
sounded sink s channel None = refl
sounded sink s channel (Some frame) = refl

-- where a frame is to be read from a place, or there is none past the edge
past_edge : (sink : SampleSpec) (s : Stream) (channel k n : ℕ) (held : List (Option Frame)) → length held ≤ n
    → share_of samples sink s channel (cond (nat_lt k n) (sound_of (place held k)) nothing) ≡ share_by sink s.spec s.feed s.factors channel (place held k)
past_edge sink s channel k n held fit =
    ⊎_elim
    (λ (l : k < n). ap (λ (a : FrameAhead). share_of samples sink s channel a) (cond-true (nat_lt k n) (sound_of (place held k)) nothing (lt-ltb k n l)) ∙ sounded sink s channel (place held k))
    (λ (l : n ≤ k). ap (λ (a : FrameAhead). share_of samples sink s channel a) (cond-false (nat_lt k n) (sound_of (place held k)) nothing (le-ltb k n l))
    ∙ sym (ap (share_by sink s.spec s.feed s.factors channel) (place_past held k (omega (arith, fit, l)))))
    (cases_lt k n)

open_share : (sink : SampleSpec) (s : Stream) (channel : ℕ) (corked short : Bool) (a : FrameAhead) (o : Option Frame) → share_of samples sink s channel a ≡ share_by sink s.spec s.feed s.factors channel o
    → share_of samples sink s channel (cond corked nothing (cond short nothing a)) ≡ share_by sink s.spec s.feed s.factors channel (cond corked None (cond short None o))
open_share sink s channel true short a o h = refl
open_share sink s channel false true a o h = refl
open_share sink s channel false false a o h = h

share_is : (sink : SampleSpec) (s : Stream) (channel k : ℕ) → share_of samples sink s channel (frame_at s k) ≡ share_by sink s.spec s.feed s.factors channel (heard_at s k)
share_is sink s channel k =
    open_share sink s channel s.corked (is_short s.queue) (cond (nat_lt k (left_of s.queue)) (sound_of (place s.queue.held k)) nothing) (place s.queue.held k)
    (past_edge sink s channel k (left_of s.queue) s.queue.held (omega arith))

share_same : (sink : SampleSpec) (k : ℕ) (s t : Stream) → SoundsSame k s t → (channel : ℕ) → share_of samples sink t channel (frame_at t k) ≡ share_of samples sink s channel (frame_at s k)
share_same sink k s t same channel =
    share_is sink t channel k
    ∙ (λ i. share_by sink (same.spec i) (same.feed i) (same.factors i) channel (same.heard i))
    ∙ sym (share_is sink s channel k)

-- ---- the mix of all

-- each sounds as before
abbrev pub AllSound : ℕ → List Input → List Input → Type 0
AllSound k [] [] = ⊤
AllSound k [] (y ∷ ys) = ⊥
AllSound k (x ∷ xs) [] = ⊥
AllSound k (x ∷ xs) (y ∷ ys) = SoundsSame k x.stream y.stream × AllSound k xs ys

shares_same : (sink : SampleSpec) (k channel : ℕ) (xs ys : List Input) → AllSound k xs ys
    → map (λ s. share_of samples sink s channel (frame_at s k)) (streams_of ys) ≡ map (λ s. share_of samples sink s channel (frame_at s k)) (streams_of xs)
shares_same sink k channel [] [] h = refl
shares_same sink k channel [] (y ∷ ys) h = absurd h
shares_same sink k channel (x ∷ xs) [] h = absurd h
shares_same sink k channel (x ∷ xs) (y ∷ ys) h = λ i. share_same sink k x.stream y.stream h.0 channel i ∷ shares_same sink k channel xs ys h.1 i

mix_by : (sink : SampleSpec) (f g : ℕ → ℤ) → ((channel : ℕ) → f channel ≡ g channel)
    → flat_map (λ channel. samples.packed sink.format (saturate_signed (samples.width sink.format) (f channel))) (range_with_len 0 sink.channels)
    ≡ flat_map (λ channel. samples.packed sink.format (saturate_signed (samples.width sink.format) (g channel))) (range_with_len 0 sink.channels)
mix_by sink f g h = λ i. flat_map (λ channel. samples.packed sink.format (saturate_signed (samples.width sink.format) (h channel i))) (range_with_len 0 sink.channels)

pub mix_same : (sink : SampleSpec) (k : ℕ) (xs ys : List Input) → AllSound k xs ys → mix_of samples sink (streams_of ys) k ≡ mix_of samples sink (streams_of xs) k
mix_same sink k xs ys h =
    mix_by sink (sum_of samples sink (streams_of ys) k) (sum_of samples sink (streams_of xs) k) (λ channel. ap (λ (zs : List ℤ). fold ◌+ℤ◌ (pos 0) zs) (shares_same sink k channel xs ys h))

-- ---- one that is changed

same_sounds : (s : Stream) (k : ℕ) → SoundsSame k s s
same_sounds s k = record { spec = refl; feed = refl; factors = refl; heard = refl }

-- none of the others is changed
above_sound : (i k : ℕ) (f : Stream → Stream) (xs : List Input) → AllAbove i xs → AllSound k xs (with_change i f xs)
above_sound i k f [] h = tt
above_sound i k f (x ∷ xs) h =
    (subst (λ (y : Input). SoundsSame k x.stream y.stream) (sym (cond-false (x.index == i) (with_stream f x) x (other x.index i h.0))) (same_sounds x.stream k), above_sound i k f xs h.1)
  where
    other : (a b : ℕ) → b < a → (a == b) ≡ false
    other a b l = grind (arith, nat_tests)

pub change_sounds : (i k : ℕ) (f : Stream → Stream) (xs : List Input) → IsRising xs → ((s : Stream) → stream_at i xs ≡ Some s → SoundsSame k s (f s)) → AllSound k xs (with_change i f xs)
change_sounds i k f [] rising h = tt
change_sounds i k f (x ∷ xs) rising h =
    ⊎_elim
    (λ (yes : (x.index == i) ≡ true). (
      subst (λ (y : Input). SoundsSame k x.stream y.stream) (sym (cond-true (x.index == i) (with_stream f x) x yes)) (h x.stream (cond-true (x.index == i) (Some x.stream) (stream_at i xs) yes)),
      above_sound i k f xs (subst (λ (j : ℕ). AllAbove j xs) (eqb-true x.index i yes) rising.0),
    ))
    (λ (no : (x.index == i) ≡ false). (
      subst (λ (y : Input). SoundsSame k x.stream y.stream) (sym (cond-false (x.index == i) (with_stream f x) x no)) (same_sounds x.stream k),
      change_sounds i k f xs rising.1 (λ s at. h s (cond-false (x.index == i) (Some x.stream) (stream_at i xs) no ∙ at)),
    ))
    (cases_Bool (x.index == i))

-- ---- streams that went forward

abbrev share_at : SampleSpec → SampleSpec → List ℕ → List ℕ → ℕ → FrameAhead → ℤ
share_at sink spec feed factors channel nothing = pos 0
share_at sink spec feed factors channel silence = pos 0
share_at sink spec feed factors channel (sound frame) = share_by sink spec feed factors channel (Some frame)

share_fields : (sink : SampleSpec) (s : Stream) (channel : ℕ) (a : FrameAhead) → share_of samples sink s channel a ≡ share_at sink s.spec s.feed s.factors channel a
share_fields sink s channel nothing = refl
share_fields sink s channel silence = refl
share_fields sink s channel (sound frame) = refl

-- going forward changes neither spec nor feed nor factors
record SameFields (s t : Stream) : Type 0 where
  spec : t.spec ≡ s.spec
  feed : t.feed ≡ s.feed
  factors : t.factors ≡ s.factors

after_fields : (s : Stream) (d : ℕ) → SameFields s (after s d)
after_fields s zero = record { spec = refl; feed = refl; factors = refl }
after_fields s (suc d) = stream_by (λ t. SameFields s t) s (suc d) (omega arith)
    (λ corked. record { spec = refl; feed = refl; factors = refl })
    (λ going. record { spec = refl; feed = refl; factors = refl })

gone_share : (sink : SampleSpec) (s : Stream) → IsStream s → (d k channel : ℕ) → share_of samples sink (after s d) channel (frame_at (after s d) k) ≡ share_of samples sink s channel (frame_at s (d + k))
gone_share sink s keeps d k channel =
    let same : SameFields s (after s d) = after_fields s d in
    share_fields sink (after s d) channel (frame_at (after s d) k)
    ∙ (λ i. share_at sink (same.spec i) (same.feed i) (same.factors i) channel (frame_ahead s keeps d k i))
    ∙ sym (share_fields sink s channel (frame_at s (d + k)))

gone_shares : (sink : SampleSpec) (d k channel : ℕ) (xs : List Input) → AllByRecursion (λ x. IsStreamOf sink (Input.stream x)) xs
    → map (λ s. share_of samples sink s channel (frame_at s k)) (streams_of (map (with_stream (λ s. after s d)) xs)) ≡ map (λ s. share_of samples sink s channel (frame_at s (d + k))) (streams_of xs)
gone_shares sink d k channel [] h = refl
gone_shares sink d k channel (x ∷ xs) h = λ i. gone_share sink x.stream h.0.holds d k channel i ∷ gone_shares sink d k channel xs h.1 i

pub mix_gone : (sink : SampleSpec) (d k : ℕ) (xs : List Input) → AllByRecursion (λ x. IsStreamOf sink (Input.stream x)) xs
    → mix_of samples sink (streams_of (map (with_stream (λ s. after s d)) xs)) k ≡ mix_of samples sink (streams_of xs) (d + k)
mix_gone sink d k xs h =
    mix_by sink (sum_of samples sink (streams_of (map (with_stream (λ s. after s d)) xs)) k) (sum_of samples sink (streams_of xs) (d + k))
    (λ channel. ap (λ (zs : List ℤ). fold ◌+ℤ◌ (pos 0) zs) (gone_shares sink d k channel xs h))

-- ---- a message to one stream

pub sounds_up_to : (n from : ℕ) (m : StreamMessage) (o : Option Stream) → from ≤ unaltered_there n m o → SoundsBefore from (applied n m) o
sounds_up_to n from m None l = tt
sounds_up_to n from m (Some s) l = λ k less. unaltered_sounds m s n k (omega (arith, less, l))

pub unaltered_mixes : (sink : SampleSpec) (n : ℕ) (m : StreamMessage) (i : ℕ) (xs : List Input) → IsRising xs → MixesSame sink (unaltered_there n m (stream_at i xs)) xs (with_change i (applied n m) xs)
unaltered_mixes sink n m i xs rising k l =
    mix_same sink k xs (with_change i (applied n m) xs)
    (change_sounds i k (applied n m) xs rising (λ s at. unaltered_sounds m s n k (subst (λ (o : Option Stream). k < unaltered_there n m o) at l)))

-- ---- a message that alters a stretch

-- what leaves all outside a stretch does so outside a longer one
pub sounds_wider : (n from to first last : ℕ) (f : Stream → Stream) (o : Option Stream) → SoundsOutside n from to f o → first ≤ from → to ≤ last → SoundsOutside n first last f o
sounds_wider n from to first last f None h low high = tt
sounds_wider n from to first last f (Some s) h low high =
    λ k less out. h k less (⊎_elim (λ (before : k < first). inl (omega (arith, before, low))) (λ (past : last ≤ k). inr (omega (arith, past, high))) out)

-- the mix past it is as before
pub resumed_mixes : (sink : SampleSpec) (n from to : ℕ) (f : Stream → Stream) (i : ℕ) (xs : List Input) → IsRising xs → SoundsOutside n from to f (stream_at i xs)
    → (k : ℕ) → to ≤ k → k < n → mix_of samples sink (streams_of (with_change i f xs)) k ≡ mix_of samples sink (streams_of xs) k
resumed_mixes sink n from to f i xs rising h k past less =
    mix_same sink k xs (with_change i f xs)
    (change_sounds i k f xs rising (λ s at. subst (λ (o : Option Stream). SoundsOutside n from to f o) at h k less (inr past)))
