use Rattle.std.proofs.Common.{List, [], ◌∷◌, ◌++◌, ap, sym, ◌∙◌}
use Rattle.std.proofs.lemmas.List.{map-append}
use Rattle.px_annals.specs.declared.message.PlainMsg.{PlainMsg}
use Rattle.px_lane.specs.Lists.{plain_message}
use Rattle.px_lane_cell.specs.Meaning.{message_meant, messages_meant}
use Rattle.px_lane_cell.proofs.Fronts.{take_got}
use Rattle.px_lane_cell.proofs.plain.plain_messages.Goals as goal

pub loop-at-preserved : goal.loop-at-preserved
loop-at-preserved c =
    let l = c.loop-at in
    let plain = c.in_ok-plain_message.field-0 in
    let m = plain_message c.in-Some.message.now in
    ap (λ (ms : List PlainMsg). messages_meant ms) c.in_ok-push.ensures.items
    ∙ map-append message_meant l.plain.items (plain ∷ [])
    ∙ (λ k. l.invariant k ++ c.in_ok-plain_message.ensures k ∷ [])
    ∙ sym (take_got c.args.messages.now.messages l.at m (sym c.in-Some.ensures))
