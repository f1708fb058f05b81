use Rattle.std.proofs.Common.{◌≡◌, ◌∙◌, Some, None, refl}
use Rattle.px_core_cell.specs.Cell.{logged_of, ends_of}
use Rattle.px_core_cell.specs.Plain.{plain_notice}
use Rattle.px_annals.specs.declared.step.PlainStep.TheVariants as plain
use Rattle.px_core_cell.proofs.Doing.{Collects, notice_done}
use Rattle.px_core_cell.proofs.Unseen.{unseen_answered, unseen_noted}
use Rattle.px_core_cell.proofs.unkept.notice_unkept.Goals as goal

pub returns-in-Ok-clause-gives : goal.returns-in-Ok-clause-gives
returns-in-Ok-clause-gives g c =
    let held : c.fetch.new.self.held ≡ Some c.in-Some.notice = c.in-Some.is in
    let used : ends_of c.collect.new.self ≡ record (ends_of c.fetch.new.self) { held = None } = c.in-Ok.ensures.used in
    let collects : Collects g.C.Recorder.visible c.args.sink.0 c.fetch.new.self.held c.args.core.now.state c.collect.new.core.state c.in-Ok.effects = c.in-Ok.ensures.done in
    notice_done g.C.Recorder.visible c.args.sink.0 (logged_of c.args.core.now.state c.args.log.now) (logged_of c.collect.new.core.state c.count.new.self) (ends_of c.args.end.now) (ends_of c.fetch.new.self) (ends_of c.collect.new.self)
    c.in-Some.notice c.in-Ok.effects c.requires.exists c.fetch.ensures.fetches held used collects
    (unseen_noted g.C.Recorder.limit g.C.Recorder.visible g.C.Recorder.faults g.C.Recorder.fulls c.args.log.now.recorder c.count.new.self.recorder (record { step = plain.Notice c.args.sink.0 (plain_notice c.in-Some.notice) }) c.requires.unseen c.count.ensures.recorder)
    c.count.ensures.steps
    c.count.ensures.owed
    c.count.ensures.fault

pub returns-in-Ok-clause-stops : goal.returns-in-Ok-clause-stops
returns-in-Ok-clause-stops g c = tt

pub returns-in-Ok-clause-said : goal.returns-in-Ok-clause-said
returns-in-Ok-clause-said g c =
    unseen_answered g.C.Recorder.limit g.C.Recorder.visible g.C.Recorder.faults g.C.Recorder.fulls c.args.log.now.recorder c.count.new.self.recorder c.requires.unseen c.count.ensures.recorder

pub returns-in-Ok-clause-boxes : goal.returns-in-Ok-clause-boxes
returns-in-Ok-clause-boxes g c = c.in-Ok.ensures.boxes ∙ c.fetch.ensures.boxes

pub returns-in_default-clause-said : goal.returns-in_default-clause-said
returns-in_default-clause-said g c = (refl, refl, refl)

pub returns-in_default-clause-boxes : goal.returns-in_default-clause-boxes
returns-in_default-clause-boxes g c = c.fetch.ensures.boxes

pub returns-in-Err-clause-boxes : goal.returns-in-Err-clause-boxes
returns-in-Err-clause-boxes g c = c.in-Err.ensures.boxes ∙ c.fetch.ensures.boxes
