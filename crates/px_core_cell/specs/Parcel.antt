-- Streams that move from one sink to another, as a history has them: plain numbers and bytes.
use Rattle.px_annals.specs.declared.stream.PlainStream.{PlainStream}
use Rattle.px_model.specs.Frame.{SampleSpec}
use Rattle.px_msg.specs.declared.message.Msg.{Msg}
use Rattle.px_msg.specs.declared.notice.Notice.{Notice}
use Rattle.px_msg.specs.Parcels.{message_with, notice_with}
use Rattle.px_stream.specs.HeldStream.{HeldStream}
use Rattle.px_stream.specs.Plain.{plain_of}

-- a stream of the code
abbrev pub plain_parcel : HeldStream → PlainStream
plain_parcel s = plain_of s.stream

-- its sample spec
abbrev pub spec_of : PlainStream → SampleSpec
spec_of s = record { format = s.format; channels = s.channels; rate = s.rate }

-- a message of the code
abbrev pub seen_message : Msg HeldStream → Msg PlainStream
seen_message m = message_with plain_parcel m

-- a notice of the code
abbrev pub seen_notice : Notice HeldStream → Notice PlainStream
seen_notice n = notice_with plain_parcel n
