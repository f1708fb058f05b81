use Rattle.std.proofs.Common.{◌+◌, ◌∙◌, ℕ, List, Option, ap, sym}
use Rattle.px_annals.specs.declared.entry.CoreEntry.{CoreEntry}
use Rattle.px_annals.specs.History.{noted}
use Rattle.px_core_cell.specs.Cell.{logged_of}
use Rattle.px_core_cell.proofs.Doing.{own_done, own_owes}
use Rattle.px_core_cell.proofs.kept.own_kept.Goals as goal

pub returns-in-Ok-clause-gives : goal.returns-in-Ok-clause-gives
returns-in-Ok-clause-gives g c =
    let d = c.in_ok-entry.entry.step in
    own_done g.C.Recorder.visible c.args.step d (logged_of c.args.core.now.state c.args.log.now) (logged_of c.act.new.core.state c.note.new.self) c.in-Ok.effects c.requires.own c.in_ok-entry.ensures.step
    c.in-Ok.ensures.after
    (c.note.ensures.visible ∙ ap (λ (o : Option (List CoreEntry)). noted (record { step = d }) o) c.in_ok-entry.ensures.visible)
    (c.note.ensures.steps ∙ ap (λ (n : ℕ). n + 1) c.in_ok-entry.ensures.steps)
    (c.note.ensures.owed ∙ c.waits-owed.ensures ∙ sym (own_owes c.args.log.now.owed c.args.step d c.requires.own c.in_ok-entry.ensures.step))
    c.in-Ok.ensures.effects
    (c.note.ensures.fault ∙ c.in_ok-entry.ensures.fault)
