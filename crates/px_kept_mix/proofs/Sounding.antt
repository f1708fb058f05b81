-- A stream that sounds as before adds what it added.
use Rattle.std.proofs.Common.{◌≡◌, ℕ, ◌<◌, ◌≤◌, List, length, Bool, true, false, cond, Option, None, Some, refl, ap, sym, ◌∙◌, arith, ⊎_elim}
use Rattle.std.specs.Prelude.{ℤ, pos, nat_lt, slice_index}
use Rattle.std.proofs.lemmas.Bool.{cases_lt, cond-true, cond-false, lt-ltb, le-ltb}
use Rattle.px_model.specs.Frame.{Frame, SampleSpec, sample_of}
use Rattle.px_model.specs.Held.{place}
use Rattle.px_model.specs.Queue.{FrameAhead, nothing, sound_of, left_of, is_short}
use Rattle.px_model.specs.Stream.{Stream, frame_at}
use Rattle.px_model.specs.Mix.{scaled, share_of}
use Rattle.px_model.proofs.Places.{place_past}
use Rattle.px_stream.specs.Samples.{samples}
use Rattle.px_stream.specs.Heard.{heard_at, SoundsSame}

-- ---- a stream's share

-- what a frame that is heard adds to a sink channel
abbrev share_by : SampleSpec → SampleSpec → List ℕ → List ℕ → ℕ → Option Frame → ℤ
share_by sink spec feed factors channel None = pos 0
share_by sink spec feed factors channel (Some frame) =
    scaled (samples.to (samples.width spec.format) (samples.width sink.format) (samples.work spec.format (sample_of spec frame (slice_index feed channel)))) (slice_index factors channel)

sounded : (sink : SampleSpec) (s : Stream) (channel : ℕ) (o : Option Frame) → share_of samples sink s channel (sound_of o) ≡ share_by sink s.spec s.feed s.factors channel o
sounded sink s channel None = refl
sounded sink s channel (Some frame) = refl

-- where a frame is to be read from a place, or there is none past the edge
past_edge : (sink : SampleSpec) (s : Stream) (channel k n : ℕ) (held : List (Option Frame)) → length held ≤ n
    → share_of samples sink s channel (cond (nat_lt k n) (sound_of (place held k)) nothing) ≡ share_by sink s.spec s.feed s.factors channel (place held k)
past_edge sink s channel k n held fit =
    ⊎_elim
    (λ (l : k < n). ap (λ (a : FrameAhead). share_of samples sink s channel a) (cond-true (nat_lt k n) (sound_of (place held k)) nothing (lt-ltb k n l)) ∙ sounded sink s channel (place held k))
    (λ (l : n ≤ k). ap (λ (a : FrameAhead). share_of samples sink s channel a) (cond-false (nat_lt k n) (sound_of (place held k)) nothing (le-ltb k n l))
    ∙ sym (ap (share_by sink s.spec s.feed s.factors channel) (place_past held k (omega (arith, fit, l)))))
    (cases_lt k n)

open_share : (sink : SampleSpec) (s : Stream) (channel : ℕ) (corked short : Bool) (a : FrameAhead) (o : Option Frame) → share_of samples sink s channel a ≡ share_by sink s.spec s.feed s.factors channel o
    → share_of samples sink s channel (cond corked nothing (cond short nothing a)) ≡ share_by sink s.spec s.feed s.factors channel (cond corked None (cond short None o))
open_share sink s channel true short a o h = refl
open_share sink s channel false true a o h = refl
open_share sink s channel false false a o h = h

share_is : (sink : SampleSpec) (s : Stream) (channel k : ℕ) → share_of samples sink s channel (frame_at s k) ≡ share_by sink s.spec s.feed s.factors channel (heard_at s k)
share_is sink s channel k =
    open_share sink s channel s.corked (is_short s.queue) (cond (nat_lt k (left_of s.queue)) (sound_of (place s.queue.held k)) nothing) (place s.queue.held k)
    (past_edge sink s channel k (left_of s.queue) s.queue.held (omega arith))

-- a frame that isn't heard adds nothing
pub share_none : (sink : SampleSpec) (s : Stream) (channel k : ℕ) → heard_at s k ≡ None → share_of samples sink s channel (frame_at s k) ≡ pos 0
share_none sink s channel k none = share_is sink s channel k ∙ ap (share_by sink s.spec s.feed s.factors channel) none

pub share_same : (sink : SampleSpec) (k : ℕ) (s t : Stream) → SoundsSame k s t → (channel : ℕ) → share_of samples sink t channel (frame_at t k) ≡ share_of samples sink s channel (frame_at s k)
share_same sink k s t same channel =
    share_is sink t channel k
    ∙ (λ i. share_by sink (same.spec i) (same.feed i) (same.factors i) channel (same.heard i))
    ∙ sym (share_is sink s channel k)
