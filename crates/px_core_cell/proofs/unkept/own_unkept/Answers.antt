use Rattle.std.proofs.Common.{◌∙◌, sym}
use Rattle.px_core_cell.specs.Cell.{logged_of}
use Rattle.px_core_cell.proofs.Doing.{own_done, own_owes}
use Rattle.px_core_cell.proofs.Unseen.{own_entry_of, is_entry, unseen_answered, unseen_noted}
use Rattle.px_core_cell.proofs.unkept.own_unkept.Goals as goal

pub returns-in-Ok-clause-gives : goal.returns-in-Ok-clause-gives
returns-in-Ok-clause-gives g c =
    let d = own_entry_of c.args.step in
    let is = is_entry c.args.step c.requires.own in
    own_done g.C.Recorder.visible c.args.step d (logged_of c.args.core.now.state c.args.log.now) (logged_of c.act.new.core.state c.count.new.self) c.in-Ok.effects c.requires.own is
    c.in-Ok.ensures.after
    (unseen_noted g.C.Recorder.limit g.C.Recorder.visible g.C.Recorder.faults g.C.Recorder.fulls c.args.log.now.recorder c.count.new.self.recorder (record { step = d }) c.requires.unseen c.count.ensures.recorder)
    c.count.ensures.steps
    (c.count.ensures.owed ∙ c.waits-owed.ensures ∙ sym (own_owes c.args.log.now.owed c.args.step d c.requires.own is))
    c.in-Ok.ensures.effects
    c.count.ensures.fault

pub returns-in-Ok-clause-said : goal.returns-in-Ok-clause-said
returns-in-Ok-clause-said g c =
    unseen_answered g.C.Recorder.limit g.C.Recorder.visible g.C.Recorder.faults g.C.Recorder.fulls c.args.log.now.recorder c.count.new.self.recorder c.requires.unseen c.count.ensures.recorder
