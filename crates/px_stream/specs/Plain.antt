-- A stream as plain numbers and bytes.
use Rattle.px_annals.specs.declared.stream.PlainRun.{PlainRun}
use Rattle.px_annals.specs.declared.stream.PlainRun.TheVariants as plain
use Rattle.px_annals.specs.declared.stream.PlainStream.{PlainStream}
use Rattle.px_model.specs.declared.data.Run.{Run}
use Rattle.px_model.specs.declared.data.Run.TheVariants.{Quiet, Playing}
use Rattle.px_model.specs.Stream.{Stream}
use Rattle.px_queue.specs.Plain.{plain_of as plain_queue}

abbrev pub plain_run : Run → PlainRun
plain_run (Quiet frames) = plain.Quiet frames
plain_run (Playing frames) = plain.Playing frames

-- the whole stream
abbrev pub plain_of : Stream → PlainStream
plain_of s = record {
  queue = plain_queue s.queue;
  corked = s.corked;
  maxlength = s.maxlength;
  tlength = s.tlength;
  minreq = s.minreq;
  requested = s.requested;
  draining = s.draining;
  run = plain_run s.run;
  format = s.spec.format;
  channels = s.spec.channels;
  rate = s.spec.rate;
  feed = s.feed;
  factors = s.factors;
}
