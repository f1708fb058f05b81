-- What each other message does to a stream (PulseAudio: the handlers of pulsecore/protocol-native.c, and `pa_memblockq_flush_write`,
-- `pa_memblockq_prebuf_disable` and `pa_memblockq_prebuf_force` of pulsecore/memblockq.c).
use Rattle.std.specs.Prelude.{ℕ, pos, Bool, false, ◌&&◌, List, [], ◌∷◌, ◌++◌, nat_lt}
use Rattle.px_model.specs.declared.data.Attr.{Attr}
use Rattle.px_model.specs.declared.data.Run.TheVariants.{Quiet}
use Rattle.px_model.specs.Frame.{SampleSpec}
use Rattle.px_model.specs.Queue.{Queue}
use Rattle.px_model.specs.Stream.{Stream, with_queue}

-- ---- the queue

-- a new queue holds (waits) where it has prebuffering
abbrev pub new_queue : ℕ → Queue
new_queue prebuf = record { held = []; read = pos 0; write = pos 0; hold = nat_lt 0 prebuf; prebuf = prebuf }

-- it plays without waiting
abbrev pub prebuf_disabled : Queue → Queue
prebuf_disabled q = record q { hold = false }

-- it waits again, where it has prebuffering
abbrev pub prebuf_forced : Queue → Queue
prebuf_forced q = record q { hold = nat_lt 0 q.prebuf }

-- nothing is held, the write index goes to the read index, and the queue waits again
abbrev pub emptied : Queue → Queue
emptied q = prebuf_forced (record q { held = []; write = q.read })

-- a new prebuf; without prebuffering it doesn't wait
abbrev pub with_prebuf : Queue → ℕ → Queue
with_prebuf q prebuf = record q { hold = q.hold && nat_lt 0 prebuf; prebuf = prebuf }

-- ---- the stream

-- New: nothing written, and tlength frames requested
abbrev pub new_stream : SampleSpec → List ℕ → List ℕ → Attr → Bool → Stream
new_stream spec feed factors attr corked = record {
  queue = new_queue attr.prebuf;
  corked = corked;
  maxlength = attr.maxlength;
  tlength = attr.tlength;
  minreq = attr.minreq;
  requested = attr.tlength;
  draining = [];
  run = Quiet 0;
  spec = spec;
  feed = feed;
  factors = factors;
}

-- Attach: a stream from another sink goes on as it was, with a new feed and new factors
abbrev pub attached : Stream → List ℕ → List ℕ → Stream
attached s feed factors = record s { feed = feed; factors = factors }

-- Cork
abbrev pub corked_to : Stream → Bool → Stream
corked_to s on = record s { corked = on }

-- Flush
abbrev pub flushed : Stream → Stream
flushed s = with_queue s (emptied s.queue)

-- Trigger
abbrev pub triggered : Stream → Stream
triggered s = with_queue s (prebuf_disabled s.queue)

-- Prebuf
abbrev pub prebuffered : Stream → Stream
prebuffered s = with_queue s (prebuf_forced s.queue)

-- Drain: plays what is there without waiting, and answers the tag at its end
abbrev pub drained_by : Stream → ℕ → Stream
drained_by s tag = record s { queue = prebuf_disabled s.queue; draining = s.draining ++ tag ∷ [] }

-- Attr: the four numbers are replaced
abbrev pub with_attr : Stream → Attr → Stream
with_attr s attr = record s {
  queue = with_prebuf s.queue attr.prebuf;
  maxlength = attr.maxlength;
  tlength = attr.tlength;
  minreq = attr.minreq;
}

-- Factors
abbrev pub with_factors : Stream → List ℕ → Stream
with_factors s factors = record s { factors = factors }
