-- A write to a stream, by what its queue answers.
use Rattle.std.proofs.Common.{◌≡◌, ℕ, List, length, sym, ◌∙◌}
use Rattle.std.specs.Prelude.{ℤ, pos}
use Rattle.px_model.specs.Frame.{frame_size, frames_of}
use Rattle.px_model.specs.Queue.{Queue}
use Rattle.px_model.specs.Stream.{Stream}
use Rattle.px_model.specs.Going.{ahead_of}
use Rattle.px_model.specs.Write.{Outcome, outcome_of, target_of, seek_of, queue_with, requested_with}
use Rattle.px_model.specs.Applied.{written_by, write_outcome}
use Rattle.px_queue.proofs.Storing.{length_frames}

module _ (s : Stream) (seek : ℕ) (offset : ℤ) (frames : ℕ) (bytes : List ℕ) (mixed : ℕ) where
  place : ℤ
  place = target_of s.queue (seek_of seek) offset

  many : frames ≡ length (frames_of (frame_size s.spec) frames bytes)
  many = sym (length_frames (frame_size s.spec) frames bytes)

  pub outcome_is : (o : Outcome) (shift ahead limit : ℤ) → shift ≡ offset → ahead ≡ ahead_of s mixed → limit ≡ pos s.maxlength → o ≡ outcome_of s.queue limit (target_of s.queue (seek_of seek) shift) frames ahead
      → o ≡ write_outcome s seek offset frames bytes mixed
  outcome_is o shift ahead limit far near bound e = e ∙ (λ i. outcome_of s.queue (bound i) (target_of s.queue (seek_of seek) (far i)) (many i) (near i))

  pub written_is : (o : Outcome) (q : Queue) (size left : ℕ) (shift : ℤ) → size ≡ frame_size s.spec → shift ≡ offset → left ≡ requested_with o s.requested frames → o ≡ write_outcome s seek offset frames bytes mixed
      → q ≡ queue_with o s.queue (target_of s.queue (seek_of seek) shift) (frames_of size frames bytes)
      → record s { queue = q; requested = left } ≡ written_by seek offset frames bytes mixed s
  written_is o q size left shift width far less same e =
      (λ i. let t : Stream = record s { queue = e i; requested = less i } in t)
      ∙ (λ i. let t : Stream = record s {
        queue = queue_with (same i) s.queue (target_of s.queue (seek_of seek) (far i)) (frames_of (width i) frames bytes);
        requested = requested_with (same i) s.requested (many i);
      } in t)
