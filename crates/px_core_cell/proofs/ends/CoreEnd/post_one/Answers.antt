use Rattle.std.proofs.Common.{List, map, Some, refl, ap, sym, subst, ◌∙◌, inr}
use Rattle.crossbeam_queue.specs.Fifo.{Held}
use Rattle.px_mail.specs.Mailbox.{key_of, posted_by, taken_by, IsHeldOf}
use Rattle.px_annals.specs.declared.stream.PlainStream.{PlainStream}
use Rattle.px_msg.specs.declared.message.Msg.{Msg}
use Rattle.px_stream.specs.HeldStream.{HeldStream}
use Rattle.px_state.specs.Out.{Roomy, unsent}
use Rattle.px_core_cell.specs.Cell.{ends_of}
use Rattle.px_core_cell.specs.Parcel.{seen_message, seen_notice}
use Rattle.px_core_cell.proofs.Handing.{may_post, held_seen}
use Rattle.px_core_cell.proofs.ends.CoreEnd.post_one.Goals as goal

pub post-requires-clause-lawful : goal.post-requires-clause-lawful
post-requires-clause-lawful g c κs within =
    let heard = c.requires.heard in
    may_post c.args.core.now.state c.args.sink heard.0 (key_of c.args.self.now.post.pass) (posted_by c.args.self.now.post.pass) (ends_of c.args.self.now) c.taken_over.result refl refl heard.1 c.requires.consistent heard.2
    (sym c.in-Some.ensures.next ∙ ap Some (sym c.taken_over.ensures))

pub returns-in-Err-clause-stops : goal.returns-in-Err-clause-stops
returns-in-Err-clause-stops g c = λ none.
    let back = c.taken_back.ensures ∙ ap seen_message c.in-Err.ensures.posted.0 ∙ c.taken_over.ensures in
    let posted = c.in-Err.ensures.posted in (
      ap (λ (r : Roomy PlainStream). r.state) (c.unsent.ensures ∙ ap (λ (m : Msg PlainStream). unsent c.args.sink m c.sent.new.self) back ∙ c.in-Some.ensures.back),
      (λ i. record { key = c.in-Err.ensures.pass.1 i; posted = map seen_message (posted.1 i); taken = map seen_notice (taken_by c.args.self.now.take.pass); held = c.args.self.now.held }),
      inr (subst (λ (l : List (Msg HeldStream)). Held 256 (IsHeldOf (map seen_message l))) (sym posted.1) (held_seen (posted_by c.args.self.now.post.pass) posted.2)),
    )
