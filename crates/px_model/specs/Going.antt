-- A stream after k frames of its sink, and the frames that it gives (PulseAudio: `pa_memblockq_drop` and `update_prebuf` of pulsecore/memblockq.c,
-- `playing_for` and `underrun_for` of pulsecore/sink-input.c). Own: prebuffering stops the read index at the last frame.
use Rattle.std.specs.Prelude.{ℕ, zero, suc, ◌+◌, ◌-◌, ◌^◌, min, ℤ, ◌&&◌, List, map, drop, nat_lt, ◌==◌, if◌then◌else◌}
use Rattle.std.specs.Int.{int_min}
use Rattle.std.specs.List.{range_with_len}
use Rattle.px_model.specs.declared.data.Run.{Run}
use Rattle.px_model.specs.declared.data.Run.TheVariants.{Quiet, Playing}
use Rattle.px_model.specs.Index.{above, onward, LAST}
use Rattle.px_model.specs.Queue.{Queue, FrameAhead, left_of, is_short}
use Rattle.px_model.specs.Stream.{Stream, frame_at}

-- ---- the queue

-- how many of the next k frames the queue gives, always the first ones
abbrev pub queue_given : Queue → ℕ → ℕ
queue_given q k = if is_short q then 0 else min k (left_of q)

-- the read index of a queue that isn't short: without prebuffering it runs on, up to the last index; with it, it stops at the last frame
abbrev pub read_after : Queue → ℕ → ℤ
read_after q k = if q.prebuf == 0 then int_min (onward q.read k) LAST else onward q.read (min k (left_of q))

-- a queue that isn't short, k frames later. It holds again exactly where it ran out and has prebuffering
abbrev pub queue_on : Queue → ℕ → Queue
queue_on q k = record q {
  held = drop (above (read_after q k) q.read) q.held;
  read = read_after q k;
  hold = nat_lt 0 q.prebuf && nat_lt (left_of q) k;
}

-- the queue k frames later; one that is short stays as it is
abbrev pub queue_after : Queue → ℕ → Queue
queue_after q zero = q
queue_after q (suc k) = if is_short q then q else queue_on q (suc k)

-- ---- the run

-- a run's count saturates at 2 ^ 64 - 1
abbrev pub counted : ℕ → ℕ
counted n = min n (2 ^ 64 - 1)

-- the run of a stream that gives all of k frames, and of one that gives only g of them
abbrev pub playing_on : Run → ℕ → Run
playing_on (Playing p) k = Playing (counted (p + k))
playing_on (Quiet u) k = Playing (counted k)

abbrev pub quiet_on : Run → ℕ → ℕ → Run
quiet_on (Playing p) g k = Quiet (counted (k - g))
quiet_on (Quiet u) g k = if g == 0 then Quiet (counted (u + k)) else Quiet (counted (k - g))

abbrev pub run_after : Run → ℕ → ℕ → Run
run_after run g k = if g == k then playing_on run k else quiet_on run g k

-- ---- the stream

-- how many of the next k frames the stream gives, always the first ones; a corked one gives none
abbrev pub given_of : Stream → ℕ → ℕ
given_of s k = if s.corked then 0 else queue_given s.queue k

-- these frames
abbrev pub frames_given : Stream → ℕ → List FrameAhead
frames_given s k = map (frame_at s) (range_with_len 0 (given_of s k))

-- the stream k frames later; a corked one stays as it is
abbrev pub after : Stream → ℕ → Stream
after s zero = s
after s (suc k) =
    if s.corked then s
    else record s { queue = queue_after s.queue (suc k); run = run_after s.run (queue_given s.queue (suc k)) (suc k) }

-- the ahead index: the read index once k frames are given (PulseAudio: the read index of a sink that has mixed ahead)
abbrev pub ahead_of : Stream → ℕ → ℤ
ahead_of s k = (after s k).queue.read
