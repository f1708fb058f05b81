-- What a peek answers, what it copies, and what is lent.
use Rattle.std.specs.Prelude.{◌≡◌, ◌≢◌, ℕ, ◌+◌, ◌*◌, ◌/◌, ◌^◌, ◌-◌, ◌<◌, ◌≤◌, min, Bool, true, false, List, length, take, drop, Option, None, Some}
use Rattle.px_model.specs.Frame.{Frame}
use Rattle.px_model.specs.Queue.{nothing, silence, sound, queue_frame}
use Rattle.px_queue.specs.HeldQueue.{HeldQueue}
use Rattle.px_queue.specs.declared.peek.Span.{Span}
use Rattle.px_queue.specs.declared.peek.Span.TheVariants as span

-- how many frames of `size` bytes these bytes have, at most 2 ^ 32 - 1
abbrev pub frames_in : ℕ → ℕ → ℕ
frames_in bytes size = min (bytes / size) (2 ^ 32 - 1)

-- n frames from place k on are held, and fill the front of the bytes, whose rest stays; the next isn't held, or doesn't fit
pub record GivesFrames (q : HeldQueue) (k n : ℕ) (old new : List ℕ) : Type 0 where
  pub some : 0 < n
  pub fit : n ≤ frames_in (length old) q.frame
  pub frames : (j : ℕ) → j < n → queue_frame q.queue (k + j) ≡ sound (take q.frame (drop (j * q.frame) new))
  pub rest : drop (n * q.frame) new ≡ drop (n * q.frame) old
  pub size : length new ≡ length old
  pub greatest : n < frames_in (length old) q.frame → (f : Frame) → queue_frame q.queue (k + n) ≢ sound f

-- these are the bytes of n frames that are held from place k on, at most `most`
pub record LendsFrames (q : HeldQueue) (k most n : ℕ) (bytes : List ℕ) : Type 0 where
  pub few : n ≤ most
  pub size : length bytes ≡ n * q.frame
  pub frames : (j : ℕ) → j < n → queue_frame q.queue (k + j) ≡ sound (take q.frame (drop (j * q.frame) bytes))

-- n places from place k on are silent, and the next isn't, or doesn't fit
pub record GivesSilence (q : HeldQueue) (k n : ℕ) (old new : List ℕ) : Type 0 where
  pub some : 0 < n
  pub fit : n ≤ frames_in (length old) q.frame
  pub silent : (j : ℕ) → j < n → queue_frame q.queue (k + j) ≡ silence
  pub same : new ≡ old
  pub greatest : n < frames_in (length old) q.frame → queue_frame q.queue (k + n) ≢ silence

abbrev pub Peeks : HeldQueue → ℕ → List ℕ → List ℕ → Span → Type 0
Peeks q k old new (span.Frames n) = GivesFrames q k n old new
Peeks q k old new (span.Silence n) = GivesSilence q k n old new
Peeks q k old new span.Nothing = (queue_frame q.queue k ≡ nothing) × (new ≡ old)

-- a frame was copied into the bytes, or there was none and they stay
abbrev pub Copies : Bool → Option Frame → List ℕ → List ℕ → Type 0
Copies true o old new = o ≡ Some new
Copies false o old new = (o ≡ None) × (new ≡ old)
