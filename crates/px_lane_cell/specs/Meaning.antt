-- What plain numbers and bytes mean: a stream, a message to a sink, and a turn with its messages.
use Rattle.std.specs.Prelude.{ℕ, ℤ, List, [], ◌∷◌, ◌++◌, map, replicate, slice_index, Option, None, Some}
use Rattle.px_annals.specs.declared.stream.PlainFrame.{PlainFrame}
use Rattle.px_annals.specs.declared.stream.PlainQueue.{PlainQueue}
use Rattle.px_annals.specs.declared.stream.PlainRun.{PlainRun}
use Rattle.px_annals.specs.declared.stream.PlainRun.TheVariants as runs
use Rattle.px_annals.specs.declared.stream.PlainStream.{PlainStream}
use Rattle.px_annals.specs.declared.message.PlainFactors.{PlainFactors}
use Rattle.px_annals.specs.declared.message.PlainMsg.{PlainMsg}
use Rattle.px_annals.specs.declared.message.PlainMsg.TheVariants as plain
use Rattle.px_annals.specs.declared.entry.LaneEntry.{LaneEntry}
use Rattle.px_model.specs.declared.data.Attr.{Attr}
use Rattle.px_model.specs.declared.data.Run.{Run}
use Rattle.px_model.specs.declared.data.Run.TheVariants.{Quiet, Playing}
use Rattle.px_model.specs.Frame.{Frame}
use Rattle.px_model.specs.Index.{above, onward}
use Rattle.px_model.specs.Queue.{Queue}
use Rattle.px_model.specs.Stream.{Stream}
use Rattle.px_model.specs.Message.{Message, InputFactors}
use Rattle.px_model.specs.Deciding.{Entry, turn, stop}

-- ---- a stream

-- the places from an index on, of frames with rising indices: a hole at each index with no frame
abbrev pub places_meant : ℤ → List PlainFrame → List (Option Frame)
places_meant index [] = []
places_meant index (f ∷ frames) = replicate (above f.index index) None ++ (Some f.bytes ∷ places_meant (onward f.index 1) frames)

abbrev pub queue_meant : PlainQueue → Queue
queue_meant q = record { held = places_meant q.read q.frames; read = q.read; write = q.write; hold = q.hold; prebuf = q.prebuf }

abbrev pub run_meant : PlainRun → Run
run_meant (runs.Quiet frames) = Quiet frames
run_meant (runs.Playing frames) = Playing frames

abbrev pub stream_meant : PlainStream → Stream
stream_meant s = record {
  queue = queue_meant s.queue;
  corked = s.corked;
  maxlength = s.maxlength;
  tlength = s.tlength;
  minreq = s.minreq;
  requested = s.requested;
  draining = s.draining;
  run = run_meant s.run;
  spec = record { format = s.format; channels = s.channels; rate = s.rate };
  feed = s.feed;
  factors = s.factors;
}

-- ---- a message

-- attributes in the order maxlength, tlength, prebuf and minreq
abbrev pub attr_meant : List ℕ → Attr
attr_meant attr = record { maxlength = slice_index attr 0; tlength = slice_index attr 1; prebuf = slice_index attr 2; minreq = slice_index attr 3 }

abbrev pub factors_meant : PlainFactors → InputFactors
factors_meant f = record { input = f.input; factors = f.factors }

abbrev pub message_meant : PlainMsg → Message Stream
message_meant (plain.New input format channels rate feed factors attr corked) = Message.new (record {
  input = input;
  spec = record { format = format; channels = channels; rate = rate };
  feed = feed;
  factors = factors;
  attr = attr_meant attr;
  corked = corked;
})
message_meant (plain.Attach input parcel feed factors) = Message.attach input (stream_meant parcel) feed factors
message_meant (plain.Detach input) = Message.detach input
message_meant (plain.Write input seek offset frames bytes) =
    Message.write (record { input = input; seek = seek; offset = offset; frames = frames; bytes = bytes })
message_meant (plain.Cork input on) = Message.cork input on
message_meant (plain.Flush input) = Message.flush input
message_meant (plain.Trigger input) = Message.trigger input
message_meant (plain.Prebuf input) = Message.prebuf input
message_meant (plain.Drain input tag) = Message.drain input tag
message_meant (plain.Attr input attr) = Message.attr input (attr_meant attr)
message_meant (plain.Factors each) = Message.factors (map factors_meant each)
message_meant (plain.Query input tag) = Message.query input tag

-- ---- a turn

-- a turn by the frames that its sync consumed, None where the sink had stopped
abbrev pub turn_meant : Option ℕ → List (Message Stream) → Entry
turn_meant None messages = stop messages
turn_meant (Some frames) messages = turn frames messages

abbrev pub messages_meant : List PlainMsg → List (Message Stream)
messages_meant messages = map message_meant messages

abbrev pub entry_meant : LaneEntry → Entry
entry_meant e = turn_meant e.consumed (messages_meant e.messages)

abbrev pub history_meant : List LaneEntry → List Entry
history_meant entries = map entry_meant entries
