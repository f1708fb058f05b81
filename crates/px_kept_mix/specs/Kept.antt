-- Sums of a mix that are kept from turn to turn: the sums of a sink's streams, by channel and frame, before clipping.
use Rattle.std.specs.Prelude.{◌≡◌, ℕ, ◌*◌, ◌^◌, ◌<◌, ℤ, pos, ◌+ℤ◌, ◌-ℤ◌, ◌≤ℤ◌, neg_ℤ, List, Option, Some, None, nat_lt, if◌then◌else◌, ⊤}
use Rattle.std.specs.List.{AllByRecursion}
use Rattle.px_model.specs.Frame.{SampleSpec}
use Rattle.px_model.specs.Stream.{Stream, frame_at}
use Rattle.px_model.specs.Mix.{Samples, share_of, sum_of}
use Rattle.px_model.specs.Sink.{Input, streams_of}

-- what a stream adds to a sink channel k frames ahead
abbrev pub share_at : Samples → SampleSpec → Stream → ℕ → ℕ → ℤ
share_at samples sink s channel k = share_of samples sink s channel (frame_at s k)

-- the same of a stream that may not be there: 0 then
abbrev pub share_there : Samples → SampleSpec → Option Stream → ℕ → ℕ → ℤ
share_there samples sink None channel k = pos 0
share_there samples sink (Some s) channel k = share_at samples sink s channel k

-- the range of a sum of n shares: a work value has 32 bits, and so has a factor, 16 of them fractional
pub record IsSumOf (n : ℕ) (sum : ℤ) : Type 0 where
  pub low : neg_ℤ (pos (n * 2 ^ 47)) ≤ℤ sum
  pub high : sum ≤ℤ pos (n * 2 ^ 47)

-- what a stream adds to the next n frames is in the range of one share
abbrev pub AddsLittle : Samples → SampleSpec → ℕ → Stream → Type 0
AddsLittle samples sink n s = (channel k : ℕ) → channel < sink.channels → k < n → IsSumOf 1 (share_at samples sink s channel k)

abbrev pub AddLittle : Samples → SampleSpec → ℕ → List Input → Type 0
AddLittle samples sink n inputs = AllByRecursion (λ x. AddsLittle samples sink n (Input.stream x)) inputs

-- kept sums, by channel and place ahead, are the sums of the next n frames
pub record AreKept (samples : Samples) (sink : SampleSpec) (n : ℕ) (inputs : List Input) (kept : ℕ → ℕ → ℤ) : Type 0 where
  pub sums : (channel k : ℕ) → channel < sink.channels → k < n → kept channel k ≡ sum_of samples sink (streams_of inputs) k channel
  pub little : AddLittle samples sink n inputs

-- a number from place `from` on, and 0 before it
abbrev pub from_on : ℕ → ℕ → ℤ → ℤ
from_on from k x = if nat_lt k from then pos 0 else x

-- a number from place `from` up to place `to`, and 0 before and past them
abbrev pub between : ℕ → ℕ → ℕ → ℤ → ℤ
between from to k x = if nat_lt k to then from_on from k x else pos 0

-- the share of stream `gone` was taken out of the sums of the next n frames and that of `come` put in, both from place `from` on
abbrev pub Exchanges : Samples → SampleSpec → ℕ → ℕ → Option Stream → Option Stream → (ℕ → ℕ → ℤ) → (ℕ → ℕ → ℤ) → Type 0
Exchanges samples sink n from gone come kept kept' =
    (channel k : ℕ) → channel < sink.channels → k < n
    → kept' channel k ≡ (kept channel k -ℤ from_on from k (share_there samples sink gone channel k)) +ℤ from_on from k (share_there samples sink come channel k)

-- both have the same share before that place
abbrev pub SameBefore : Samples → SampleSpec → ℕ → Option Stream → Option Stream → Type 0
SameBefore samples sink from gone come = (channel k : ℕ) → channel < sink.channels → k < from → share_there samples sink come channel k ≡ share_there samples sink gone channel k

-- the stream that a change makes of one that may not be there
abbrev pub changed_there : (Stream → Stream) → Option Stream → Option Stream
changed_there f None = None
changed_there f (Some s) = Some (f s)

-- the stream that comes, if any does, adds little
abbrev pub AddsLittleThere : Samples → SampleSpec → ℕ → Option Stream → Type 0
AddsLittleThere samples sink n None = ⊤
AddsLittleThere samples sink n (Some s) = AddsLittle samples sink n s
