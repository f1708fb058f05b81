-- The frame at a place ahead, read.
use Rattle.std.proofs.Common.{◌≡◌, ℕ, ◌*◌, ◌<◌, ◌≤◌, Bool, false, true, ap, sym, ◌∙◌, arith}
use Rattle.std.proofs.lemmas.Bool.{cond-false, false≢true}
use Rattle.px_queue.specs.Peeked.{frames_in}
use Rattle.px_stream.proofs.Runs.{run_is}
use Rattle.px_model.specs.Queue.{FrameAhead, nothing, silence, sound, queue_frame}
use Rattle.px_model.specs.Stream.{Stream, frame_at}

pub frame_open : (s : Stream) (k : ℕ) → s.corked ≡ false → frame_at s k ≡ queue_frame s.queue k
frame_open s k e = cond-false s.corked nothing (queue_frame s.queue k) e

abbrev pub is_some : FrameAhead → Bool
is_some nothing = false
is_some silence = true
is_some (sound f) = true

pub not_nothing : (a b : FrameAhead) → a ≡ b → is_some b ≡ true → a ≡ nothing → ⊥
not_nothing a b e some none = false≢true (sym (ap is_some none) ∙ ap is_some e ∙ some)

-- a peek gives no more frames than there is room for
pub peeked_few : (given total frame frames : ℕ) → given ≤ frames_in total frame → total ≡ frames * frame → 0 < frame → given ≤ frames
peeked_few given total frame frames fit whole some = omega (arith, fit, run_is total frames frame some whole)

pub then_is : (b c a : ℕ) → b ≡ c → a ≡ b → a ≡ c
then_is b c a q p = p ∙ q
