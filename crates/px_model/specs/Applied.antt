-- What a message does to the stream that it names, with `mixed` frames mixed past the stream's read index.
use Rattle.std.specs.Prelude.{ℕ, ℤ, pos, Bool, true, false, List, length}
use Rattle.px_model.specs.Frame.{frame_size, frames_of}
use Rattle.px_model.specs.Stream.{Stream}
use Rattle.px_model.specs.Going.{ahead_of}
use Rattle.px_model.specs.Write.{Outcome, stored, overflow, outside, outcome_of, seek_of, target_of, written}
use Rattle.px_model.specs.Control.{attached, corked_to, triggered, prebuffered, flushed, drained_by, with_attr, with_factors}
use Rattle.px_model.specs.Message.{StreamMessage}

-- the outcome of a write, by the mode of its seek, its offset, its frames and their bytes; and the stream after it
abbrev pub write_outcome : Stream → ℕ → ℤ → ℕ → List ℕ → ℕ → Outcome
write_outcome s seek offset frames bytes mixed =
    outcome_of s.queue (pos s.maxlength) (target_of s.queue (seek_of seek) offset) (length (frames_of (frame_size s.spec) frames bytes)) (ahead_of s mixed)

abbrev pub written_by : ℕ → ℤ → ℕ → List ℕ → ℕ → Stream → Stream
written_by seek offset frames bytes mixed s =
    written s (target_of s.queue (seek_of seek) offset) (frames_of (frame_size s.spec) frames bytes) (ahead_of s mixed)

-- the stream after a message; a query is answered, and changes nothing
abbrev pub applied : ℕ → StreamMessage → Stream → Stream
applied mixed (StreamMessage.attach feed factors) s = attached s feed factors
applied mixed (StreamMessage.write seek offset frames bytes) s = written_by seek offset frames bytes mixed s
applied mixed (StreamMessage.cork on) s = corked_to s on
applied mixed StreamMessage.flush s = flushed s
applied mixed StreamMessage.trigger s = triggered s
applied mixed StreamMessage.prebuf s = prebuffered s
applied mixed (StreamMessage.drain tag) s = drained_by s tag
applied mixed (StreamMessage.attr attr) s = with_attr s attr
applied mixed (StreamMessage.factors factors) s = with_factors s factors
applied mixed (StreamMessage.query tag) s = s

-- the write is refused: its frames would pass the limit or leave the range of indices
abbrev pub is_refused : Outcome → Bool
is_refused stored = false
is_refused overflow = true
is_refused outside = true

-- whether a message gives an Overflow
abbrev pub overflows : ℕ → StreamMessage → Stream → Bool
overflows mixed (StreamMessage.attach feed factors) s = false
overflows mixed (StreamMessage.write seek offset frames bytes) s = is_refused (write_outcome s seek offset frames bytes mixed)
overflows mixed (StreamMessage.cork on) s = false
overflows mixed StreamMessage.flush s = false
overflows mixed StreamMessage.trigger s = false
overflows mixed StreamMessage.prebuf s = false
overflows mixed (StreamMessage.drain tag) s = false
overflows mixed (StreamMessage.attr attr) s = false
overflows mixed (StreamMessage.factors factors) s = false
overflows mixed (StreamMessage.query tag) s = false
