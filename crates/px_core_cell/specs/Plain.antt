-- Steps of the core as plain numbers and bytes, and back.
use Rattle.std.specs.Prelude.{ℕ, zero, suc, List, [], ◌∷◌, replicate}
use Rattle.px_annals.specs.declared.stream.PlainRun.{PlainRun}
use Rattle.px_annals.specs.declared.stream.PlainRun.TheVariants as runs
use Rattle.px_annals.specs.declared.stream.PlainStream.{PlainStream}
use Rattle.px_annals.specs.declared.notice.PlainNotice.{PlainNotice}
use Rattle.px_annals.specs.declared.notice.PlainNotice.TheVariants as notices
use Rattle.px_annals.specs.declared.step.PlainBody.{PlainBody}
use Rattle.px_annals.specs.declared.step.PlainBody.TheVariants as bodies
use Rattle.px_annals.specs.declared.step.PlainStep.{PlainStep}
use Rattle.px_annals.specs.declared.step.PlainStep.TheVariants as steps
use Rattle.px_model.specs.declared.data.Run.{Run}
use Rattle.px_model.specs.declared.data.Run.TheVariants.{Quiet, Playing}
use Rattle.px_frame.specs.declared.fault.FrameFault.{FrameFault}
use Rattle.px_frame.specs.declared.fault.FrameFault.TheVariants.{ZeroLength, TooLong, PacketFlags, SharedMemory, SeekMode}
use Rattle.px_frame.specs.declared.frame.Body.{Body}
use Rattle.px_frame.specs.declared.frame.Body.TheVariants.{Control, Write}
use Rattle.px_msg.specs.declared.notice.Notice.{Notice}
use Rattle.px_msg.specs.declared.notice.Notice.TheVariants.{Request, Overflow, Underflow, Started, Drained, Detached, Latency}
use Rattle.px_core.specs.Step.{Step}

-- ---- in plain form

abbrev pub plain_run : Run → PlainRun
plain_run (Quiet frames) = runs.Quiet frames
plain_run (Playing frames) = runs.Playing frames

abbrev pub plain_notice : Notice PlainStream → PlainNotice
plain_notice (Request input frames) = notices.Request input.0 frames
plain_notice (Overflow input) = notices.Overflow input.0
plain_notice (Underflow input) = notices.Underflow input.0
plain_notice (Started input) = notices.Started input.0
plain_notice (Drained input tag) = notices.Drained input.0 tag
plain_notice (Detached input parcel) = notices.Detached input.0 parcel
plain_notice (Latency input tag write read buffered playing run) = notices.Latency input.0 tag write read buffered playing (plain_run run)

abbrev pub plain_body : Body → PlainBody
plain_body (Control bytes) = bodies.Control bytes
plain_body (Write stream offset seek bytes) = bodies.Write stream offset seek bytes

-- ---- the meaning of plain forms

abbrev pub run_for : PlainRun → Run
run_for (runs.Quiet frames) = Quiet frames
run_for (runs.Playing frames) = Playing frames

abbrev pub notice_for : PlainNotice → Notice PlainStream
notice_for (notices.Request input frames) = Request (record { 0 = input }) frames
notice_for (notices.Overflow input) = Overflow (record { 0 = input })
notice_for (notices.Underflow input) = Underflow (record { 0 = input })
notice_for (notices.Started input) = Started (record { 0 = input })
notice_for (notices.Drained input tag) = Drained (record { 0 = input }) tag
notice_for (notices.Detached input parcel) = Detached (record { 0 = input }) parcel
notice_for (notices.Latency input tag write read buffered playing run) =
    Latency (record { 0 = input }) tag write read buffered playing (run_for run)

abbrev pub body_for : PlainBody → Body
body_for (bodies.Control bytes) = Control bytes
body_for (bodies.Write stream offset seek bytes) = Write stream offset seek bytes

-- the rule with a number
abbrev pub fault_for : ℕ → FrameFault
fault_for zero = ZeroLength
fault_for (suc zero) = ZeroLength
fault_for (suc (suc zero)) = TooLong
fault_for (suc (suc (suc zero))) = PacketFlags
fault_for (suc (suc (suc (suc zero)))) = SharedMemory
fault_for (suc (suc (suc (suc (suc n))))) = SeekMode

-- a step of a history: one step of the core, or one for each message that was handed out
abbrev pub steps_of : PlainStep → List (Step PlainStream)
steps_of (steps.Connect conn) = Step.connect (record { 0 = conn }) ∷ []
steps_of (steps.Frame conn at body) = Step.frame (record { 0 = conn }) (record { at = at; body = body_for body }) ∷ []
steps_of (steps.Broken conn fault at) = Step.broken (record { 0 = conn }) (fault_for fault) at ∷ []
steps_of (steps.Close conn) = Step.close (record { 0 = conn }) ∷ []
steps_of (steps.Cut conn) = Step.cut (record { 0 = conn }) ∷ []
steps_of steps.Sweep = Step.sweep ∷ []
steps_of (steps.Notice sink notice) = Step.notice (record { 0 = sink }) (notice_for notice) ∷ []
steps_of (steps.Out sink count) = replicate count (Step.out (record { 0 = sink }))
