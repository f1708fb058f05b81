-- Lists of messages and of notices of the code as those of the model.
use Rattle.std.specs.Prelude.{ℕ, List, map}
use Rattle.px_model.specs.Stream.{Stream}
use Rattle.px_model.specs.Message.{Message}
use Rattle.px_model.specs.Notice.{Notice}
use Rattle.px_msg.specs.View.{message_of, notice_of}
use Rattle.px_msg.specs.declared.message.Msg.{Msg}
use Rattle.px_msg.specs.declared.notice.Notice.{Notice as CodeNotice}
use Rattle.px_stream.specs.HeldStream.{HeldStream}

-- messages in order, and how many the list can hold without taking memory
pub record BoundedMessages : Type 0 where
  pub messages : List (Message Stream)
  pub capacity : ℕ

-- notices in order, and how many the list can hold without taking memory
pub record BoundedNotices : Type 0 where
  pub notices : List (Notice Stream)
  pub capacity : ℕ

-- a message and a notice as plain data
abbrev pub plain_message : Msg HeldStream → Message Stream
plain_message m = message_of HeldStream.stream m

abbrev pub messages_of : List (Msg HeldStream) → List (Message Stream)
messages_of messages = map plain_message messages

abbrev pub plain_notice : CodeNotice HeldStream → Notice Stream
plain_notice n = notice_of HeldStream.stream n

abbrev pub notices_of : List (CodeNotice HeldStream) → List (Notice Stream)
notices_of notices = map plain_notice notices
