use Rattle.std.proofs.Common.{◌≡◌, ◌+◌, ◌∙◌, ℕ, Some, None, ap, refl}
use Rattle.px_annals.specs.History.{noted}
use Rattle.px_core_cell.specs.Cell.{logged_of, ends_of}
use Rattle.px_core_cell.proofs.Doing.{Collects, notice_done}
use Rattle.px_core_cell.proofs.kept.notice_kept.Goals as goal

pub returns-in-Ok-clause-gives : goal.returns-in-Ok-clause-gives
returns-in-Ok-clause-gives g c =
    let held : c.fetch.new.self.held ≡ Some c.in-Some.notice = c.in-Some.is in
    let used : ends_of c.collect.new.self ≡ record (ends_of c.fetch.new.self) { held = None } = c.in-Ok.ensures.used in
    let collects : Collects g.C.Recorder.visible c.args.sink.0 c.fetch.new.self.held c.args.core.now.state c.collect.new.core.state c.in-Ok.effects = c.in-Ok.ensures.done in
    notice_done g.C.Recorder.visible c.args.sink.0 (logged_of c.args.core.now.state c.args.log.now) (logged_of c.collect.new.core.state c.note.new.self) (ends_of c.args.end.now) (ends_of c.fetch.new.self) (ends_of c.collect.new.self)
    c.in-Some.notice c.in-Ok.effects c.requires.exists c.fetch.ensures.fetches held used collects
    (c.note.ensures.visible ∙ (λ i. noted (record { step = c.in_ok-entry.ensures.step i }) (c.in_ok-entry.ensures.visible i)))
    (c.note.ensures.steps ∙ ap (λ (n : ℕ). n + 1) c.in_ok-entry.ensures.steps)
    c.note.ensures.owed
    (c.note.ensures.fault ∙ c.in_ok-entry.ensures.fault)

pub returns-in-Ok-clause-stops : goal.returns-in-Ok-clause-stops
returns-in-Ok-clause-stops g c = tt

pub returns-in-Ok-clause-said : goal.returns-in-Ok-clause-said
returns-in-Ok-clause-said g c =
    let said = c.in_ok-entry.ensures.said in
    let calm = c.note.ensures.calm in (said.0, calm.0 ∙ said.1, (calm.1 ∙ said.2.0, calm.2 ∙ said.2.1))

pub returns-in-Ok-clause-boxes : goal.returns-in-Ok-clause-boxes
returns-in-Ok-clause-boxes g c = c.in-Ok.ensures.boxes ∙ c.fetch.ensures.boxes

pub returns-in_default-clause-said : goal.returns-in_default-clause-said
returns-in_default-clause-said g c = (refl, refl, refl)

pub returns-in_default-clause-boxes : goal.returns-in_default-clause-boxes
returns-in_default-clause-boxes g c = c.fetch.ensures.boxes

pub returns-in-Err-clause-boxes : goal.returns-in-Err-clause-boxes
returns-in-Err-clause-boxes g c = c.in-Err.ensures.boxes ∙ c.fetch.ensures.boxes

pub returns-in_err-entry-clause-boxes : goal.returns-in_err-entry-clause-boxes
returns-in_err-entry-clause-boxes g c = c.fetch.ensures.boxes
