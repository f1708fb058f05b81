-- What is heard of a stream, and how much of it a message leaves unaltered.
use Rattle.std.specs.Prelude.{◌≡◌, ℕ, Bool, true, ◌||◌, Option, None, if◌then◌else◌}
use Rattle.px_model.specs.Frame.{Frame, frame_size, frames_of}
use Rattle.px_model.specs.Stream.{Stream}
use Rattle.px_model.specs.Message.{StreamMessage}
use Rattle.px_model.specs.Applied.{write_outcome}
use Rattle.px_model.specs.Control.{prebuf_disabled, prebuf_forced, with_prebuf}
use Rattle.px_model.specs.Write.{seek_of, target_of}
use Rattle.px_model.specs.Queue.{Queue}
use Rattle.px_queue.specs.Heard.{heard_of, is_other, is_silent, unaltered_by}

-- the frame that is heard k ahead of the read index, if any
abbrev pub heard_at : Stream → ℕ → Option Frame
heard_at s k = if s.corked then None else heard_of s.queue k

-- a stream that sounds k frames ahead as it did before
pub record SoundsSame (k : ℕ) (before after : Stream) : Type 0 where
  pub spec : after.spec ≡ before.spec
  pub feed : after.feed ≡ before.feed
  pub factors : after.factors ≡ before.factors
  pub heard : heard_at after k ≡ heard_at before k

-- nothing is heard of a stream with this queue: it is corked, or nothing is heard of the queue
abbrev pub none_heard : Bool → Queue → Bool
none_heard corked q = corked || is_silent q

-- whether nothing is heard of a stream once a message is applied that leaves the frames it holds as they are, or drops them all
abbrev pub none_heard_after : StreamMessage → Stream → Bool
none_heard_after (StreamMessage.cork on) s = none_heard on s.queue
none_heard_after StreamMessage.flush s = true
none_heard_after StreamMessage.trigger s = none_heard s.corked (prebuf_disabled s.queue)
none_heard_after StreamMessage.prebuf s = none_heard s.corked (prebuf_forced s.queue)
none_heard_after (StreamMessage.drain tag) s = none_heard s.corked (prebuf_disabled s.queue)
none_heard_after (StreamMessage.attr attr) s = none_heard s.corked (with_prebuf s.queue attr.prebuf)
none_heard_after _ s = none_heard s.corked s.queue

-- all of the next n frames where nothing was heard and nothing is, or the same frames were heard and are; else none
abbrev pub unaltered_unless : Bool → Bool → ℕ → ℕ
unaltered_unless before after n = if is_other after before then 0 else n

-- how many of the next n frames sound as before once a message is applied, where a sink has mixed these n
abbrev pub unaltered_of : ℕ → StreamMessage → Stream → ℕ
unaltered_of n (StreamMessage.write seek offset frames bytes) s =
    unaltered_by (write_outcome s seek offset frames bytes n) s.queue (target_of s.queue (seek_of seek) offset) (frames_of (frame_size s.spec) frames bytes) n
unaltered_of n (StreamMessage.query tag) s = n
unaltered_of n (StreamMessage.attach feed factors) s = 0
unaltered_of n (StreamMessage.factors factors) s = 0
unaltered_of n m s = unaltered_unless (none_heard s.corked s.queue) (none_heard_after m s) n
