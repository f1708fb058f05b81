-- A stream: a queue of frames with what a client and the core set (PulseAudio: `pa_sink_input` of pulsecore/sink-input.h, and the playback stream of
-- pulsecore/protocol-native.c). All counts are frames.
use Rattle.std.specs.Prelude.{ℕ, ◌<◌, ◌≤◌, Bool, List, if◌then◌else◌}
use Rattle.px_model.specs.declared.data.Run.{Run}
use Rattle.px_model.specs.Frame.{SampleSpec}
use Rattle.px_model.specs.Queue.{Queue, IsQueue, FrameAhead, nothing, queue_frame}

pub record Stream : Type 0 where
  pub queue : Queue
  pub corked : Bool
  -- the attributes but for prebuf, which the queue has: the most that may wait, how many should wait, and the least that is requested at once
  pub maxlength : ℕ
  pub tlength : ℕ
  pub minreq : ℕ
  -- frames requested from the client that it hasn't written yet
  pub requested : ℕ
  -- tags of the drains that wait for an answer
  pub draining : List ℕ
  pub run : Run
  pub spec : SampleSpec
  -- for each sink channel the stream channel that feeds it, and the factor by which it is multiplied, in 65536ths
  pub feed : List ℕ
  pub factors : List ℕ

abbrev pub with_queue : Stream → Queue → Stream
with_queue s q = record s { queue = q }

-- the frame k ahead of the read index; a corked stream has none
abbrev pub frame_at : Stream → ℕ → FrameAhead
frame_at s k = if s.corked then nothing else queue_frame s.queue k

-- the invariant of a stream
pub record IsStream (s : Stream) : Type 0 where
  pub queue_holds : IsQueue s.queue
  pub prebuf_bounded : s.queue.prebuf ≤ s.tlength
  pub tlength_bounded : s.tlength ≤ s.maxlength
  pub maxlength_bounded : s.maxlength ≤ 4194304
  pub minreq_positive : 0 < s.minreq
  pub requested_bounded : s.requested ≤ 4194304
