-- A stream's share, by what of the stream it reads.
use Rattle.std.proofs.Common.{◌≡◌, ℕ, zero, suc, ◌+◌, List, refl, sym, ◌∙◌, arith, ℤ, pos}
use Rattle.std.specs.Prelude.{slice_index}
use Rattle.px_model.specs.Frame.{SampleSpec, sample_of}
use Rattle.px_model.specs.Queue.{FrameAhead, nothing, silence, sound}
use Rattle.px_model.specs.Stream.{Stream, IsStream, frame_at}
use Rattle.px_model.specs.Going.{after}
use Rattle.px_model.specs.Mix.{Samples, scaled, share_of}
use Rattle.px_model.specs.Turn.{asked_stream}
use Rattle.px_model.proofs.Streams.{frame_ahead, stream_by}
use Rattle.px_kept_mix.specs.Kept.{share_at}

abbrev share_by : Samples → SampleSpec → SampleSpec → List ℕ → List ℕ → ℕ → FrameAhead → ℤ
share_by samples sink spec feed factors channel nothing = pos 0
share_by samples sink spec feed factors channel silence = pos 0
share_by samples sink spec feed factors channel (sound frame) =
    scaled (samples.to (samples.width spec.format) (samples.width sink.format) (samples.work spec.format (sample_of spec frame (slice_index feed channel)))) (slice_index factors channel)

share_fields : (samples : Samples) (sink : SampleSpec) (s : Stream) (channel : ℕ) (a : FrameAhead) → share_of samples sink s channel a ≡ share_by samples sink s.spec s.feed s.factors channel a
share_fields samples sink s channel nothing = refl
share_fields samples sink s channel silence = refl
share_fields samples sink s channel (sound frame) = refl

-- a stream at another place ahead, with the same spec, feed and factors
pub record SoundsAs (s t : Stream) (k j : ℕ) : Type 0 where
  pub spec : t.spec ≡ s.spec
  pub feed : t.feed ≡ s.feed
  pub factors : t.factors ≡ s.factors
  pub frame : frame_at t j ≡ frame_at s k

pub share_same : (samples : Samples) (sink : SampleSpec) (s t : Stream) (k j channel : ℕ) → SoundsAs s t k j → share_at samples sink t channel j ≡ share_at samples sink s channel k
share_same samples sink s t k j channel same =
    share_fields samples sink t channel (frame_at t j)
    ∙ (λ i. share_by samples sink (same.spec i) (same.feed i) (same.factors i) channel (same.frame i))
    ∙ sym (share_fields samples sink s channel (frame_at s k))

-- one that went forward
record SameFields (s t : Stream) : Type 0 where
  spec : t.spec ≡ s.spec
  feed : t.feed ≡ s.feed
  factors : t.factors ≡ s.factors

after_fields : (s : Stream) (d : ℕ) → SameFields s (after s d)
after_fields s zero = record { spec = refl; feed = refl; factors = refl }
after_fields s (suc d) = stream_by (λ t. SameFields s t) s (suc d) (omega arith)
    (λ corked. record { spec = refl; feed = refl; factors = refl })
    (λ going. record { spec = refl; feed = refl; factors = refl })

pub gone_share : (samples : Samples) (sink : SampleSpec) (s : Stream) → IsStream s → (d k channel : ℕ) → share_at samples sink (after s d) channel k ≡ share_at samples sink s channel (d + k)
gone_share samples sink s keeps d k channel =
    let same : SameFields s (after s d) = after_fields s d in
    share_same samples sink s (after s d) (d + k) k channel (record { spec = same.spec; feed = same.feed; factors = same.factors; frame = frame_ahead s keeps d k })

-- one that asked for frames
pub asked_share : (samples : Samples) (sink : SampleSpec) (s : Stream) (mixed k channel : ℕ) → share_at samples sink (asked_stream mixed s) channel k ≡ share_at samples sink s channel k
asked_share samples sink s mixed k channel = share_same samples sink s (asked_stream mixed s) k k channel (record { spec = refl; feed = refl; factors = refl; frame = refl })
