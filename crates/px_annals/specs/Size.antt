-- The size of an entry: 64 bytes, 64 more for each message, and the bytes that it has.
use Rattle.std.specs.Prelude.{ℕ, ◌+◌, ◌-◌, ◌^◌, min, List, length}
use Rattle.std.specs.List.{sum_by}
use Rattle.px_annals.specs.declared.entry.LaneEntry.{LaneEntry}
use Rattle.px_annals.specs.declared.entry.CoreEntry.{CoreEntry}
use Rattle.px_annals.specs.declared.stream.PlainFrame.{PlainFrame}
use Rattle.px_annals.specs.declared.stream.PlainStream.{PlainStream}
use Rattle.px_annals.specs.declared.message.PlainMsg.{PlainMsg}
use Rattle.px_annals.specs.declared.message.PlainMsg.TheVariants as messages
use Rattle.px_annals.specs.declared.notice.PlainNotice.{PlainNotice}
use Rattle.px_annals.specs.declared.notice.PlainNotice.TheVariants as notices
use Rattle.px_annals.specs.declared.step.PlainBody.{PlainBody}
use Rattle.px_annals.specs.declared.step.PlainBody.TheVariants as bodies
use Rattle.px_annals.specs.declared.step.PlainStep.{PlainStep}
use Rattle.px_annals.specs.declared.step.PlainStep.TheVariants as steps

-- ---- the bytes of its parts

abbrev pub bytes_of_frames : List PlainFrame → ℕ
bytes_of_frames frames = sum_by (λ f. length (PlainFrame.bytes f)) frames

abbrev pub bytes_of_stream : PlainStream → ℕ
bytes_of_stream s = bytes_of_frames s.queue.frames

abbrev pub bytes_of_message : PlainMsg → ℕ
bytes_of_message (messages.New input format channels rate feed factors attr corked) = 0
bytes_of_message (messages.Attach input parcel feed factors) = bytes_of_stream parcel
bytes_of_message (messages.Detach input) = 0
bytes_of_message (messages.Write input seek offset frames bytes) = length bytes
bytes_of_message (messages.Cork input on) = 0
bytes_of_message (messages.Flush input) = 0
bytes_of_message (messages.Trigger input) = 0
bytes_of_message (messages.Prebuf input) = 0
bytes_of_message (messages.Drain input tag) = 0
bytes_of_message (messages.Attr input attr) = 0
bytes_of_message (messages.Factors each) = 0
bytes_of_message (messages.Query input tag) = 0

abbrev pub bytes_of_notice : PlainNotice → ℕ
bytes_of_notice (notices.Request input frames) = 0
bytes_of_notice (notices.Overflow input) = 0
bytes_of_notice (notices.Underflow input) = 0
bytes_of_notice (notices.Started input) = 0
bytes_of_notice (notices.Drained input tag) = 0
bytes_of_notice (notices.Detached input parcel) = bytes_of_stream parcel
bytes_of_notice (notices.Latency input tag write read buffered playing run) = 0

abbrev pub bytes_of_body : PlainBody → ℕ
bytes_of_body (bodies.Control bytes) = length bytes
bytes_of_body (bodies.Write stream offset seek bytes) = length bytes

abbrev pub bytes_of_step : PlainStep → ℕ
bytes_of_step (steps.Connect conn) = 0
bytes_of_step (steps.Frame conn at body) = bytes_of_body body
bytes_of_step (steps.Broken conn fault at) = 0
bytes_of_step (steps.Close conn) = 0
bytes_of_step (steps.Cut conn) = 0
bytes_of_step steps.Sweep = 0
bytes_of_step (steps.Notice sink notice) = bytes_of_notice notice
bytes_of_step (steps.Out sink count) = 0

-- ---- entries

-- a number of bytes, at most 2 ^ 64 - 1
abbrev pub at_most : ℕ → ℕ
at_most bytes = min bytes (2 ^ 64 - 1)

-- a message counts 64, and its bytes
abbrev pub size_of_messages : List PlainMsg → ℕ
size_of_messages messages = sum_by (λ m. 64 + bytes_of_message m) messages

abbrev pub size_of_lane_entry : LaneEntry → ℕ
size_of_lane_entry e = at_most (64 + size_of_messages e.messages)

abbrev pub size_of_core_entry : CoreEntry → ℕ
size_of_core_entry e = at_most (64 + bytes_of_step e.step)
