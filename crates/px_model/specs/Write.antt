-- A write of frames with a seek, and its three outcomes (PulseAudio: `pa_memblockq_seek` and `pa_memblockq_push` of pulsecore/memblockq.c). Own: the
-- bound counts from the ahead index, and how requested falls.
use Rattle.std.specs.Prelude.{ℕ, zero, suc, ◌-◌, ℤ, pos, ◌+ℤ◌, ◌-ℤ◌, int_lt, Bool, not, ◌&&◌, ◌||◌, List, length, nat_lt, ◌==◌, if◌then◌else◌}
use Rattle.px_model.specs.declared.data.Seek.{Seek}
use Rattle.px_model.specs.declared.data.Seek.TheVariants.{Relative, Absolute, RelativeOnRead, RelativeEnd}
use Rattle.px_model.specs.Index.{above, onward, is_index}
use Rattle.px_model.specs.Frame.{Frame}
use Rattle.px_model.specs.Held.{written_over}
use Rattle.px_model.specs.Queue.{Queue, end_of}
use Rattle.px_model.specs.Stream.{Stream}

-- the seek of a mode as on the wire, 0 to 3 (PulseAudio: `pa_seek_mode_t`)
abbrev pub seek_of : ℕ → Seek
seek_of zero = Relative
seek_of (suc zero) = Absolute
seek_of (suc (suc zero)) = RelativeOnRead
seek_of (suc (suc (suc n))) = RelativeEnd

-- the index from which the offset counts
abbrev pub origin_of : Queue → Seek → ℤ
origin_of q Relative = q.write
origin_of q Absolute = pos 0
origin_of q RelativeOnRead = q.read
origin_of q RelativeEnd = end_of q

-- the index at which the frames are written
abbrev pub target_of : Queue → Seek → ℤ → ℤ
target_of q seek offset = origin_of q seek +ℤ offset

pub data Outcome : Type 0 where
  stored : Outcome
  overflow : Outcome
  outside : Outcome

-- l frames at index p go past the end of what is held: always where nothing is held
abbrev pub passes_end : Queue → ℤ → ℕ → Bool
passes_end q p l = length q.held == 0 || int_lt (end_of q) (onward p l)

-- the outcome of a write of l frames at index p, with at most limit frames waiting past the ahead index a:
-- outside where it leaves the range of indices; overflow where it goes past the end and past that limit; else stored
abbrev pub outcome_of : Queue → ℤ → ℤ → ℕ → ℤ → Outcome
outcome_of q limit p l a =
    if not (is_index p && is_index (onward p l)) then outside
    else (if passes_end q p l && int_lt limit (onward p l -ℤ a) then overflow else stored)

-- the same with counts of frames, for a limit of at least 0 and an ahead index not below the read index, without a case for a queue that holds
-- nothing
abbrev pub outcome_by_counts : Queue → ℕ → ℤ → ℕ → ℤ → Outcome
outcome_by_counts q limit p l a =
    if not (is_index p && is_index (onward p l)) then outside
    else (if int_lt (end_of q) (onward p l) && nat_lt limit (above (onward p l) a) then overflow else stored)

-- the queue after each outcome
abbrev pub queue_with : Outcome → Queue → ℤ → List Frame → Queue
queue_with outside q p frames = q
queue_with overflow q p frames = record q { write = onward p (length frames) }
queue_with stored q p frames = record q { held = written_over q.read p frames q.held; write = onward p (length frames) }

-- the frames still requested after a write
abbrev pub requested_with : Outcome → ℕ → ℕ → ℕ
requested_with outside requested l = requested
requested_with overflow requested l = requested - l
requested_with stored requested l = requested - l

-- the stream after a write at index p, where a is the ahead index
abbrev pub written : Stream → ℤ → List Frame → ℤ → Stream
written s p frames a = record s {
  queue = queue_with (outcome_of s.queue (pos s.maxlength) p (length frames) a) s.queue p frames;
  requested = requested_with (outcome_of s.queue (pos s.maxlength) p (length frames) a) s.requested (length frames);
}
