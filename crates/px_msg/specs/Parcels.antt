-- A message or a notice with another parcel, and otherwise the same.
use Rattle.std.specs.Prelude.{◌≡◌}
use Rattle.px_msg.specs.declared.message.Msg.{Msg}
use Rattle.px_msg.specs.declared.message.Msg.TheVariants.{New, Attach, Detach, Write, Cork, Flush, Trigger, Prebuf, Drain, Attr, Factors, Query}
use Rattle.px_msg.specs.declared.notice.Notice.{Notice}
use Rattle.px_msg.specs.declared.notice.Notice.TheVariants.{Request, Overflow, Underflow, Started, Drained, Detached, Latency}

-- a message with parcel_of applied to its parcel, if it has one
abbrev pub message_with : {P Q : Type 0} → (P → Q) → Msg P → Msg Q
message_with parcel_of (New n) = New n
message_with parcel_of (Attach input parcel feed factors) = Attach input (parcel_of parcel) feed factors
message_with parcel_of (Detach input) = Detach input
message_with parcel_of (Write input seek offset frames bytes) = Write input seek offset frames bytes
message_with parcel_of (Cork input on) = Cork input on
message_with parcel_of (Flush input) = Flush input
message_with parcel_of (Trigger input) = Trigger input
message_with parcel_of (Prebuf input) = Prebuf input
message_with parcel_of (Drain input tag) = Drain input tag
message_with parcel_of (Attr input attr) = Attr input attr
message_with parcel_of (Factors each) = Factors each
message_with parcel_of (Query input tag) = Query input tag

-- a notice with parcel_of applied to its parcel, if it has one
abbrev pub notice_with : {P Q : Type 0} → (P → Q) → Notice P → Notice Q
notice_with parcel_of (Request input frames) = Request input frames
notice_with parcel_of (Overflow input) = Overflow input
notice_with parcel_of (Underflow input) = Underflow input
notice_with parcel_of (Started input) = Started input
notice_with parcel_of (Drained input tag) = Drained input tag
notice_with parcel_of (Detached input parcel) = Detached input (parcel_of parcel)
notice_with parcel_of (Latency input tag write read buffered playing run) = Latency input tag write read buffered playing run

-- a message that differs only in its parcel, which `gives` relates to that of the other
abbrev pub IsMessageWith : {P Q : Type 0} → (P → Q → Type 0) → Msg P → Msg Q → Type 0
IsMessageWith {P} {Q} gives (Attach input parcel feed factors) other = (given : Q) × gives parcel given × (other ≡ Attach input given feed factors)
IsMessageWith gives (New n) other = other ≡ New n
IsMessageWith gives (Detach input) other = other ≡ Detach input
IsMessageWith gives (Write input seek offset frames bytes) other = other ≡ Write input seek offset frames bytes
IsMessageWith gives (Cork input on) other = other ≡ Cork input on
IsMessageWith gives (Flush input) other = other ≡ Flush input
IsMessageWith gives (Trigger input) other = other ≡ Trigger input
IsMessageWith gives (Prebuf input) other = other ≡ Prebuf input
IsMessageWith gives (Drain input tag) other = other ≡ Drain input tag
IsMessageWith gives (Attr input attr) other = other ≡ Attr input attr
IsMessageWith gives (Factors each) other = other ≡ Factors each
IsMessageWith gives (Query input tag) other = other ≡ Query input tag

-- also a notice
abbrev pub IsNoticeWith : {P Q : Type 0} → (P → Q → Type 0) → Notice P → Notice Q → Type 0
IsNoticeWith {P} {Q} gives (Detached input parcel) other = (given : Q) × gives parcel given × (other ≡ Detached input given)
IsNoticeWith gives (Request input frames) other = other ≡ Request input frames
IsNoticeWith gives (Overflow input) other = other ≡ Overflow input
IsNoticeWith gives (Underflow input) other = other ≡ Underflow input
IsNoticeWith gives (Started input) other = other ≡ Started input
IsNoticeWith gives (Drained input tag) other = other ≡ Drained input tag
IsNoticeWith gives (Latency input tag write read buffered playing run) other = other ≡ Latency input tag write read buffered playing run
