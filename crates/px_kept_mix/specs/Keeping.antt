-- What streams add to kept sums.
use Rattle.std.specs.Prelude.{◌≡◌, ℕ, ℤ, ◌+◌, ◌-◌, ◌<◌, ◌≤◌, ◌⊎◌, Bool, List, length, Option, Some, None, ⊤}
use Rattle.px_sample.specs.declared.spec.Spec.{Spec}
use Rattle.px_msg.specs.View.{sample_spec}
use Rattle.px_kernel.specs.Kernel.{changed}
use Rattle.px_mixcache.specs.Cache.{KeptSums, kept_at}
use Rattle.px_model.specs.Stream.{Stream}
use Rattle.px_model.specs.Sink.{Input}
use Rattle.px_stream.specs.Samples.{samples}
use Rattle.px_stream.specs.Heard.{SoundsSame}
use Rattle.px_kept_mix.specs.Kept.{AreKept, IsSumOf, from_on, between, share_at, share_there}

-- the share of a stream in a sink channel, k frames ahead
abbrev pub share_in : Spec → Stream → ℕ → ℕ → ℤ
share_in sink s channel k = share_at samples (sample_spec sink) s channel k

-- kept sums are what the streams of these inputs add up to, for each frame that they hold
pub record IsKept (sink : Spec) (inputs : List Input) (kept : KeptSums) : Type 0 where
  pub channels : length kept.runs ≡ sink.channels
  pub sums : AreKept samples (sample_spec sink) kept.frames inputs (kept_at kept)

-- they hold as many frames as before, and have room for as many
pub record IsAsLarge (before after : KeptSums) : Type 0 where
  pub depth : after.depth ≡ before.depth
  pub frames : after.frames ≡ before.frames
  pub channels : length after.runs ≡ length before.runs

-- each sum is in the range of n shares
abbrev pub AreSmall : ℕ → KeptSums → Type 0
AreSmall n kept = (c k : ℕ) → c < length kept.runs → k < kept.frames → IsSumOf n (kept_at kept c k)

-- the share of a stream is added to each sum from frame `from` on, or taken away
abbrev pub Shares : Bool → Spec → Stream → ℕ → KeptSums → KeptSums → Type 0
Shares add sink s from before after =
    (c k : ℕ) → c < length before.runs → k < before.frames → kept_at after c k ≡ changed add (kept_at before c k) (from_on from k (share_in sink s c k))

-- the same from frame `from` up to frame `to`
abbrev pub SharesBetween : Bool → Spec → Stream → ℕ → ℕ → KeptSums → KeptSums → Type 0
SharesBetween add sink s from to before after =
    (c k : ℕ) → c < length before.runs → k < before.frames → kept_at after c k ≡ changed add (kept_at before c k) (between from to k (share_in sink s c k))

-- each sum from frame `from` on is in the range of n shares
abbrev pub AreSmallFrom : ℕ → ℕ → KeptSums → Type 0
AreSmallFrom from n kept = (c k : ℕ) → c < length kept.runs → from ≤ k → k < kept.frames → IsSumOf n (kept_at kept c k)

-- each share of a stream from frame `from` up to `to` is in range
abbrev pub AreLittle : Spec → Stream → ℕ → ℕ → Type 0
AreLittle sink s from to = (c k : ℕ) → c < sink.channels → from ≤ k → k < to → IsSumOf 1 (share_in sink s c k)

-- the same of a stream that may not be there
abbrev pub SharesThere : Bool → Spec → Option Stream → ℕ → KeptSums → KeptSums → Type 0
SharesThere add sink s from before after =
    (c k : ℕ) → c < length before.runs → k < before.frames → kept_at after c k ≡ changed add (kept_at before c k) (from_on from k (share_there samples (sample_spec sink) s c k))

-- the same from frame `from` up to frame `to`
abbrev pub SharesBetweenThere : Bool → Spec → Option Stream → ℕ → ℕ → KeptSums → KeptSums → Type 0
SharesBetweenThere add sink s from to before after =
    (c k : ℕ) → c < length before.runs → k < before.frames → kept_at after c k ≡ changed add (kept_at before c k) (between from to k (share_there samples (sample_spec sink) s c k))

abbrev pub AreLittleThere : Spec → Option Stream → ℕ → ℕ → Type 0
AreLittleThere sink None from to = ⊤
AreLittleThere sink (Some s) from to = AreLittle sink s from to

-- a change of a stream, if that is there, leaves the sound of the frames before `from`
abbrev pub SoundsBefore : ℕ → (Stream → Stream) → Option Stream → Type 0
SoundsBefore from f None = ⊤
SoundsBefore from f (Some s) = (k : ℕ) → k < from → SoundsSame k s (f s)

-- it leaves the sound of all of the next n frames but those from `from` up to `to`
abbrev pub SoundsOutside : ℕ → ℕ → ℕ → (Stream → Stream) → Option Stream → Type 0
SoundsOutside n from to f None = ⊤
SoundsOutside n from to f (Some s) = (k : ℕ) → k < n → (k < from) ⊎ (to ≤ k) → SoundsSame k s (f s)

-- the sums move `frames` frames forward
pub record GoesBy (frames : ℕ) (before after : KeptSums) : Type 0 where
  pub frames_left : after.frames ≡ before.frames - frames
  pub channels : length after.runs ≡ length before.runs
  pub sums : (c k : ℕ) → c < length before.runs → kept_at after c k ≡ kept_at before c (frames + k)
