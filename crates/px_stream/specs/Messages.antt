-- Messages to a stream as those of the model, and what they bring.
use Rattle.std.specs.Prelude.{◌≡◌, ℕ, ◌*◌, ◌<◌, ◌≤◌, Bool, true, false, length, All, ⊤}
use Rattle.px_block.specs.Given.{blocks_for}
use Rattle.px_model.specs.Frame.{frame_size}
use Rattle.px_model.specs.Message.{StreamMessage}
use Rattle.px_model.specs.Orderly.{IsRepaired}
use Rattle.px_model.specs.Stream.{Stream}
use Rattle.px_stream.specs.declared.message.StreamMsg.{StreamMsg}
use Rattle.px_stream.specs.declared.message.StreamMsg.TheVariants.{Attach, Write, Cork, Flush, Trigger, Prebuf, Drain, Attr, Factors, Query}
use Rattle.px_stream.specs.declared.message.Applied.{Applied}
use Rattle.px_stream.specs.declared.message.Applied.TheVariants.{Quiet, Overflow}

abbrev pub message_of : StreamMsg → StreamMessage
message_of (Attach feed factors) = StreamMessage.attach feed factors
message_of (Write seek offset frames bytes) = StreamMessage.write seek offset frames bytes
message_of (Cork on) = StreamMessage.cork on
message_of Flush = StreamMessage.flush
message_of Trigger = StreamMessage.trigger
message_of Prebuf = StreamMessage.prebuf
message_of (Drain tag) = StreamMessage.drain tag
message_of (Attr attr) = StreamMessage.attr attr
message_of (Factors factors) = StreamMessage.factors factors
message_of (Query tag) = StreamMessage.query tag

-- it fits: exactly the bytes of its frames and a known mode of seeking, repaired attributes, and a channel of the stream and a factor for
-- each channel of its sink
abbrev pub Suits : Stream → StreamMessage → Type 0
Suits s (StreamMessage.attach feed factors) = All (λ channel. channel < s.spec.channels) feed × (length factors ≡ length feed)
Suits s (StreamMessage.write seek offset frames bytes) = (seek ≤ 3) × (length bytes ≡ frames * frame_size s.spec)
Suits s (StreamMessage.attr attr) = IsRepaired attr
Suits s (StreamMessage.factors factors) = length factors ≡ length s.feed
Suits s _ = ⊤

-- how many blocks it brings
abbrev pub blocks_with : StreamMessage → ℕ
blocks_with (StreamMessage.write seek offset frames bytes) = blocks_for (length bytes)
blocks_with _ = 0

-- how many messages' room it takes
abbrev pub room_for : StreamMessage → ℕ
room_for (StreamMessage.write seek offset frames bytes) = 1
room_for (StreamMessage.drain tag) = 1
room_for _ = 0

-- the answer: Overflow where a write was refused
abbrev pub answer_for : Bool → Applied
answer_for true = Overflow
answer_for false = Quiet
