-- Messages and notices of the code as those of the model: numbers for their types, and a function applied to a parcel.
use Rattle.std.specs.Prelude.{map}
use Rattle.px_sample.specs.declared.spec.Spec.{Spec}
use Rattle.px_sample.specs.Format.{code_of}
use Rattle.px_model.specs.Frame.{SampleSpec}
use Rattle.px_model.specs.Message.{Message, NewStream as Opened, InputFactors as Gains}
use Rattle.px_model.specs.Notice.{Notice as ModelNotice}
use Rattle.px_msg.specs.declared.message.Msg.{Msg}
use Rattle.px_msg.specs.declared.message.Msg.TheVariants.{New, Attach, Detach, Write, Cork, Flush, Trigger, Prebuf, Drain, Attr, Factors, Query}
use Rattle.px_msg.specs.declared.message.NewStream.{NewStream}
use Rattle.px_msg.specs.declared.factors.InputFactors.{InputFactors}
use Rattle.px_msg.specs.declared.notice.Notice.{Notice}
use Rattle.px_msg.specs.declared.notice.Notice.TheVariants.{Request, Overflow, Underflow, Started, Drained, Detached, Latency}

-- a sample spec, with the code of its format
abbrev pub sample_spec : Spec → SampleSpec
sample_spec spec = record { format = code_of spec.format; channels = spec.channels; rate = spec.rate }

abbrev pub opened : NewStream → Opened
opened n = record { input = n.input.0; spec = sample_spec n.spec; feed = n.feed; factors = n.factors; attr = n.attr; corked = n.corked }

abbrev pub gains : InputFactors → Gains
gains f = record { input = f.input.0; factors = f.factors }

-- a message
abbrev pub message_of : {P Q : Type 0} → (P → Q) → Msg P → Message Q
message_of parcel_of (New n) = Message.new (opened n)
message_of parcel_of (Attach input parcel feed factors) = Message.attach input.0 (parcel_of parcel) feed factors
message_of parcel_of (Detach input) = Message.detach input.0
message_of parcel_of (Write input seek offset frames bytes) =
    Message.write (record { input = input.0; seek = seek; offset = offset; frames = frames; bytes = bytes })
message_of parcel_of (Cork input on) = Message.cork input.0 on
message_of parcel_of (Flush input) = Message.flush input.0
message_of parcel_of (Trigger input) = Message.trigger input.0
message_of parcel_of (Prebuf input) = Message.prebuf input.0
message_of parcel_of (Drain input tag) = Message.drain input.0 tag
message_of parcel_of (Attr input attr) = Message.attr input.0 attr
message_of parcel_of (Factors each) = Message.factors (map gains each)
message_of parcel_of (Query input tag) = Message.query input.0 tag

-- a notice
abbrev pub notice_of : {P Q : Type 0} → (P → Q) → Notice P → ModelNotice Q
notice_of parcel_of (Request input frames) = ModelNotice.request input.0 frames
notice_of parcel_of (Overflow input) = ModelNotice.overflow input.0
notice_of parcel_of (Underflow input) = ModelNotice.underflow input.0
notice_of parcel_of (Started input) = ModelNotice.started input.0
notice_of parcel_of (Drained input tag) = ModelNotice.drained input.0 tag
notice_of parcel_of (Detached input parcel) = ModelNotice.detached input.0 (parcel_of parcel)
notice_of parcel_of (Latency input tag write read buffered playing run) =
    ModelNotice.latency input.0 tag (record { write = write; read = read; buffered = buffered; playing = playing; run = run })

-- the notice of the code that has this view
abbrev pub notice_for : {P : Type 0} → ModelNotice P → Notice P
notice_for (ModelNotice.request input frames) = Request (record { 0 = input }) frames
notice_for (ModelNotice.overflow input) = Overflow (record { 0 = input })
notice_for (ModelNotice.underflow input) = Underflow (record { 0 = input })
notice_for (ModelNotice.started input) = Started (record { 0 = input })
notice_for (ModelNotice.drained input tag) = Drained (record { 0 = input }) tag
notice_for (ModelNotice.detached input parcel) = Detached (record { 0 = input }) parcel
notice_for (ModelNotice.latency input tag answer) =
    Latency (record { 0 = input }) tag answer.write answer.read answer.buffered answer.playing answer.run
