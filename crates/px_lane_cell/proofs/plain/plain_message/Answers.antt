use Rattle.std.proofs.Common.{◌≡◌, ap, sym, ◌∙◌, subst}
use Rattle.std.specs.Prelude.{IfOk}
use Rattle.px_lane.specs.Lists.{plain_message}
use Rattle.px_lane_cell.specs.Meaning.{message_meant}
use Rattle.px_model.specs.Message.{Message}
use Rattle.px_msg.specs.declared.message.Msg.{Msg}
use Rattle.px_stream.specs.HeldStream.{HeldStream}
use Rattle.px_lane_cell.proofs.plain.plain_message.Goals as goal

pub returns-in-New : goal.returns-in-New
returns-in-New c =
    subst (λ (m : Msg HeldStream). IfOk c.plain_new.result (λ plain. message_meant plain ≡ plain_message m)) (sym c.in-New.is) c.plain_new.ensures

pub returns-in-Attach : goal.returns-in-Attach
returns-in-Attach c =
    subst (λ (m : Msg HeldStream). IfOk c.plain_attach.result (λ plain. message_meant plain ≡ plain_message m)) (sym c.in-Attach.is) c.plain_attach.ensures

pub returns-in-Detach : goal.returns-in-Detach
returns-in-Detach c =
    ap plain_message (sym c.in-Detach.is)

pub returns-in-Cork : goal.returns-in-Cork
returns-in-Cork c =
    ap plain_message (sym c.in-Cork.is)

pub returns-in-Flush : goal.returns-in-Flush
returns-in-Flush c =
    ap plain_message (sym c.in-Flush.is)

pub returns-in-Trigger : goal.returns-in-Trigger
returns-in-Trigger c =
    ap plain_message (sym c.in-Trigger.is)

pub returns-in-Prebuf : goal.returns-in-Prebuf
returns-in-Prebuf c =
    ap plain_message (sym c.in-Prebuf.is)

pub returns-in-Drain : goal.returns-in-Drain
returns-in-Drain c =
    ap plain_message (sym c.in-Drain.is)

pub returns-in-Attr : goal.returns-in-Attr
returns-in-Attr c =
    ap (Message.attr c.in-Attr.input.0) c.listed.ensures ∙ ap plain_message (sym c.in-Attr.is)

pub returns-in-Factors : goal.returns-in-Factors
returns-in-Factors c =
    subst (λ (m : Msg HeldStream). IfOk c.plain_regained.result (λ plain. message_meant plain ≡ plain_message m)) (sym c.in-Factors.is) c.plain_regained.ensures

pub returns-in-Query : goal.returns-in-Query
returns-in-Query c =
    ap plain_message (sym c.in-Query.is)
