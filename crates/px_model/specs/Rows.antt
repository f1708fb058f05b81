-- Worked examples: histories of a mono sink in 16 bits, the frames that they play and their notices, calculated by hand.
use Rattle.std.specs.Prelude.{ℕ, ◌+◌, ◌*◌, ◌/◌, ◌%◌, ◌^◌, ℤ, pos, negsuc, false, true, List, [], ◌∷◌, ◌++◌, flat_map, replicate, slice_index, Some}
use Rattle.std.specs.Int.{w16, cast_signed, cast_unsigned}
use Rattle.px_model.specs.declared.data.Attr.{Attr}
use Rattle.px_model.specs.declared.data.Run.TheVariants.{Quiet, Playing}
use Rattle.px_model.specs.Frame.{Frame, SampleSpec}
use Rattle.px_model.specs.Queue.{Queue}
use Rattle.px_model.specs.Stream.{Stream}
use Rattle.px_model.specs.Message.{Message}
use Rattle.px_model.specs.Notice.{Notice, Latency}
use Rattle.px_model.specs.Mix.{Samples}
use Rattle.px_model.specs.Sink.{Sink, empty_sink}
use Rattle.px_model.specs.Deciding.{Entry, turn, stop}

-- S16LE, one channel, 48,000 frames a second
abbrev pub mono : SampleSpec
mono = record { format = 3; channels = 1; rate = 48000 }

-- a value in S16LE, and the value of two bytes
abbrev pub s16 : ℤ → Frame
s16 x = cast_unsigned w16 x % 256 ∷ cast_unsigned w16 x / 256 ∷ []

abbrev pub s16_value : List ℕ → ℤ
s16_value bytes = cast_signed w16 (slice_index bytes 0 + 256 * slice_index bytes 1)

abbrev pub s16_samples : Samples
s16_samples = record {
  width = λ format. w16;
  work = λ format bytes. s16_value bytes;
  to = λ from width x. x;
  packed = λ format x. s16 x;
}

-- n frames of a value
abbrev pub tone : ℤ → ℕ → List Frame
tone x n = replicate n (s16 x)

-- a queue without prebuffering that holds nothing, with both indices at `read`
abbrev pub empty_at : ℤ → Queue
empty_at read = record { held = []; read = read; write = read; hold = false; prebuf = 0 }

-- a sink with a guard of 10 frames and a depth of 100
abbrev pub small_sink : Sink
small_sink = empty_sink mono 10 100

-- attributes with a minreq of 1 frame
abbrev pub attr_of : ℕ → ℕ → ℕ → Attr
attr_of maxlength tlength prebuf = record { maxlength = maxlength; tlength = tlength; prebuf = prebuf; minreq = 1 }

-- the largest maxlength that a client may ask for, in frames of two bytes, and a tlength of 200 frames
abbrev pub usual_attr : ℕ → Attr
usual_attr prebuf = attr_of 2097152 200 prebuf

-- a new mono stream
abbrev pub create : ℕ → Attr → Message Stream
create i attr = Message.new (record { input = i; spec = mono; feed = 0 ∷ []; factors = 65536 ∷ []; attr = attr; corked = false })

abbrev pub factor : ℕ → ℕ → Message Stream
factor i f = Message.factors (record { input = i; factors = f ∷ [] } ∷ [])

-- n frames for an input, with a seek and its offset, or at the write index
abbrev pub write_at : ℕ → ℕ → ℤ → ℕ → List Frame → Message Stream
write_at i seek offset n frames = Message.write (record { input = i; seek = seek; offset = offset; frames = n; bytes = flat_map (λ x. x) frames })

abbrev pub write : ℕ → ℕ → List Frame → Message Stream
write i n frames = write_at i 0 (pos 0) n frames

-- Prebuffering and an underrun: the read index stops at the last frame written, so the next five are played, though late.
abbrev pub underrun_history : List Entry
underrun_history =
    turn 0 (create 0 (usual_attr 1) ∷ factor 0 65536 ∷ write 0 20 (tone (pos 1000) 20) ∷ [])
    ∷ turn 30 []
    ∷ turn 0 (write 0 5 (tone (pos 1000) 5) ∷ [])
    ∷ turn 60 []
    ∷ []

abbrev pub underrun_played : List Frame
underrun_played = (tone (pos 1000) 20 ++ tone (pos 0) 10) ++ (tone (pos 0) 10 ++ tone (pos 1000) 5 ++ tone (pos 0) 45)

abbrev pub underrun_notices : List (Notice Stream)
underrun_notices =
    Notice.request 0 20 ∷ Notice.started 0 ∷ Notice.underflow 0 ∷ Notice.request 0 5 ∷ Notice.started 0 ∷ Notice.underflow 0 ∷ []

-- Seeks: later frames replace earlier ones, but not those below the horizon.
abbrev pub seek_history : List Entry
seek_history =
    turn 0 (create 0 (usual_attr 0) ∷ factor 0 65536 ∷ write 0 100 (tone (pos 1000) 100) ∷ [])
    ∷ turn 0 (write_at 0 1 (pos 20) 10 (tone (pos 500) 10) ∷ [])
    ∷ turn 0 (write_at 0 1 (pos 0) 5 (tone (pos 7) 5) ∷ [])
    ∷ turn 100 []
    ∷ []

abbrev pub seek_played : List Frame
seek_played = tone (pos 1000) 20 ++ tone (pos 500) 10 ++ tone (pos 1000) 70

abbrev pub seek_notices : List (Notice Stream)
seek_notices = Notice.request 0 100 ∷ Notice.started 0 ∷ Notice.request 0 10 ∷ Notice.request 0 5 ∷ []

-- The limit: a second hundred frames are stored despite a maxlength of one hundred, since the first are rendered already. One frame more overflows.
abbrev pub limit_history : List Entry
limit_history =
    turn 0 (create 0 (attr_of 100 100 0) ∷ factor 0 65536 ∷ write 0 100 (tone (pos 1) 100) ∷ [])
    ∷ turn 0 (write 0 100 (tone (pos 2) 100) ∷ [])
    ∷ turn 100 []
    ∷ turn 100 []
    ∷ []

abbrev pub limit_played : List Frame
limit_played = tone (pos 1) 100 ++ tone (pos 2) 100

abbrev pub limit_notices : List (Notice Stream)
limit_notices = Notice.request 0 100 ∷ Notice.started 0 ∷ Notice.request 0 100 ∷ []

abbrev pub overflow_history : List Entry
overflow_history =
    turn 0 (create 0 (attr_of 100 100 0) ∷ factor 0 65536 ∷ write 0 100 (tone (pos 1) 100) ∷ [])
    ∷ turn 0 (write 0 101 (tone (pos 2) 101) ∷ write_at 0 1 (pos (2 ^ 60)) 1 (tone (pos 3) 1) ∷ [])
    ∷ turn 100 []
    ∷ turn 100 []
    ∷ []

abbrev pub overflow_played : List Frame
overflow_played = tone (pos 1) 100 ++ tone (pos 0) 100

abbrev pub overflow_notices : List (Notice Stream)
overflow_notices =
    Notice.request 0 100 ∷ Notice.started 0 ∷ Notice.overflow 0 ∷ Notice.overflow 0 ∷ Notice.request 0 99 ∷ Notice.request 0 1 ∷ []

-- A rewind after a volume change: only the guard's ten frames keep the old volume.
abbrev pub rewind_history : List Entry
rewind_history =
    turn 0 (create 0 (usual_attr 0) ∷ factor 0 65536 ∷ write 0 200 (tone (pos 1000) 200) ∷ [])
    ∷ turn 0 (factor 0 8192 ∷ [])
    ∷ turn 100 []
    ∷ []

abbrev pub rewind_played : List Frame
rewind_played = tone (pos 1000) 10 ++ tone (pos 125) 90

abbrev pub rewind_notices : List (Notice Stream)
rewind_notices = Notice.request 0 100 ∷ Notice.started 0 ∷ Notice.request 0 100 ∷ []

-- Data that comes late, without prebuffering: what lies below the read index is lost.
abbrev pub late_history : List Entry
late_history =
    turn 0 (create 0 (usual_attr 0) ∷ factor 0 65536 ∷ [])
    ∷ turn 20 []
    ∷ turn 0 (write 0 40 (tone (pos 1000) 40) ∷ [])
    ∷ turn 50 []
    ∷ []

abbrev pub late_played : List Frame
late_played = tone (pos 0) 20 ++ (tone (pos 0) 10 ++ tone (pos 1000) 10 ++ tone (pos 0) 30)

abbrev pub late_notices : List (Notice Stream)
late_notices = Notice.request 0 40 ∷ Notice.started 0 ∷ Notice.underflow 0 ∷ []

-- A mix is clipped once: of two streams at its ends, and not at all where the third brings it back.
abbrev pub one_frame : ℕ → ℤ → List (Message Stream)
one_frame i x = create i (usual_attr 0) ∷ factor i 65536 ∷ write i 1 (s16 x ∷ []) ∷ []

abbrev pub mix_history : List (Message Stream) → List Entry
mix_history messages = turn 0 messages ∷ turn 1 [] ∷ []

abbrev pub loud_messages : List (Message Stream)
loud_messages = one_frame 0 (pos 30000) ++ one_frame 1 (pos 10000)

abbrev pub deep_messages : List (Message Stream)
deep_messages = one_frame 0 (negsuc 29999) ++ one_frame 1 (negsuc 9999)

abbrev pub balanced_messages : List (Message Stream)
balanced_messages = one_frame 0 (pos 30000) ++ one_frame 1 (pos 10000) ++ one_frame 2 (negsuc 9999)

-- A division rounds towards minus infinity: an eighth of -1 is -1.
abbrev pub eighth_history : List Entry
eighth_history =
    turn 0 (create 0 (usual_attr 0) ∷ factor 0 8192 ∷ write 0 2 (s16 (pos 1000) ∷ s16 (negsuc 0) ∷ []) ∷ [])
    ∷ turn 2 []
    ∷ []

abbrev pub eighth_played : List Frame
eighth_played = s16 (pos 125) ∷ s16 (negsuc 0) ∷ []

-- A drain is answered once, at the turn whose horizon is the stream's end.
abbrev pub drain_history : List Entry
drain_history =
    turn 0 (create 0 (usual_attr 1) ∷ factor 0 65536 ∷ write 0 100 (tone (pos 1000) 100) ∷ Message.drain 0 3 ∷ [])
    ∷ turn 100 []
    ∷ turn 100 []
    ∷ []

abbrev pub drain_notices : List (Notice Stream)
drain_notices = Notice.request 0 100 ∷ Notice.started 0 ∷ Notice.drained 0 3 ∷ Notice.underflow 0 ∷ []

-- A sink that stopped hands over its stream as it is at the horizon.
abbrev pub stop_history : List Entry
stop_history =
    turn 0 (create 0 (usual_attr 1) ∷ factor 0 65536 ∷ write 0 200 (tone (pos 1000) 200) ∷ [])
    ∷ turn 20 []
    ∷ stop []
    ∷ stop (Message.query 0 9 ∷ Message.detach 0 ∷ [])
    ∷ []

abbrev pub stop_parcel : Stream
stop_parcel = record {
  queue = record { held = replicate 170 (Some (s16 (pos 1000))); read = pos 30; write = pos 200; hold = false; prebuf = 1 };
  corked = false;
  maxlength = 2097152;
  tlength = 200;
  minreq = 1;
  requested = 120;
  draining = [];
  run = Playing 30;
  spec = mono;
  feed = 0 ∷ [];
  factors = 65536 ∷ [];
}

abbrev pub stop_latency : Latency
stop_latency = record { write = pos 200; read = pos 30; buffered = 10; playing = true; run = Playing 30 }

abbrev pub stop_notices : List (Notice Stream)
stop_notices =
    Notice.request 0 100 ∷ Notice.started 0 ∷ Notice.request 0 20 ∷ Notice.latency 0 9 stop_latency ∷ Notice.detached 0 stop_parcel ∷ []

-- Prebuffering holds back a stream that has less than prebuf, until a Trigger.
abbrev pub hold_history : List Entry
hold_history =
    turn 0 (create 0 (usual_attr 50) ∷ factor 0 65536 ∷ write 0 20 (tone (pos 1000) 20) ∷ [])
    ∷ turn 20 []
    ∷ turn 0 (Message.trigger 0 ∷ [])
    ∷ turn 50 []
    ∷ []

abbrev pub hold_played : List Frame
hold_played = tone (pos 0) 20 ++ (tone (pos 0) 10 ++ tone (pos 1000) 20 ++ tone (pos 0) 20)

abbrev pub hold_notices : List (Notice Stream)
hold_notices = Notice.request 0 20 ∷ Notice.started 0 ∷ Notice.underflow 0 ∷ []

-- A corked stream stands still, and resumes where it stood.
abbrev pub cork_history : List Entry
cork_history =
    turn 0 (create 0 (usual_attr 0) ∷ factor 0 65536 ∷ write 0 100 (tone (pos 1000) 100) ∷ Message.cork 0 true ∷ [])
    ∷ turn 20 []
    ∷ turn 0 (Message.query 0 5 ∷ Message.cork 0 false ∷ [])
    ∷ turn 30 []
    ∷ []

abbrev pub cork_played : List Frame
cork_played = tone (pos 0) 20 ++ (tone (pos 0) 10 ++ tone (pos 1000) 20)

abbrev pub cork_latency : Latency
cork_latency = record { write = pos 100; read = pos 0; buffered = 100; playing = false; run = Quiet 0 }

abbrev pub cork_notices : List (Notice Stream)
cork_notices = Notice.latency 0 5 cork_latency ∷ Notice.request 0 90 ∷ Notice.started 0 ∷ Notice.request 0 10 ∷ []

-- A flush drops what is held; seeks from the read index and from the end leave holes, which are silent.
abbrev pub flush_history : List Entry
flush_history =
    turn 0 (create 0 (usual_attr 0) ∷ factor 0 65536 ∷ write 0 100 (tone (pos 1000) 100) ∷ [])
    ∷ turn 20 []
    ∷ turn 0 (Message.flush 0 ∷ write_at 0 2 (pos 5) 5 (tone (pos 7) 5) ∷ write_at 0 3 (pos 5) 5 (tone (pos 9) 5) ∷ [])
    ∷ turn 40 []
    ∷ []

abbrev pub flush_played : List Frame
flush_played =
    tone (pos 1000) 20
    ++ (tone (pos 1000) 10 ++ tone (pos 0) 5 ++ tone (pos 7) 5 ++ tone (pos 0) 5 ++ tone (pos 9) 5 ++ tone (pos 0) 10)

abbrev pub flush_notices : List (Notice Stream)
flush_notices = Notice.request 0 100 ∷ Notice.started 0 ∷ Notice.request 0 10 ∷ Notice.underflow 0 ∷ []

-- Fewer than minreq missing frames are requested later, all at once.
abbrev pub minreq_history : List Entry
minreq_history =
    turn 0 (create 0 (record { maxlength = 2097152; tlength = 200; prebuf = 0; minreq = 50 }) ∷ factor 0 65536 ∷ write 0 30 (tone (pos 1) 30) ∷ [])
    ∷ turn 0 (write 0 30 (tone (pos 1) 30) ∷ [])
    ∷ []

abbrev pub minreq_notices : List (Notice Stream)
minreq_notices = Notice.started 0 ∷ Notice.request 0 60 ∷ []

-- A stream that runs out while it drains has no underrun.
abbrev pub last_history : List Entry
last_history =
    turn 0 (create 0 (usual_attr 1) ∷ factor 0 65536 ∷ write 0 50 (tone (pos 1000) 50) ∷ Message.drain 0 3 ∷ [])
    ∷ turn 100 []
    ∷ []

abbrev pub last_notices : List (Notice Stream)
last_notices = Notice.request 0 50 ∷ Notice.started 0 ∷ Notice.drained 0 3 ∷ []
