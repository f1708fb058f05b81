use Rattle.std.proofs.Common.{Some, sym, ap, ◌∙◌}
use Rattle.px_core.specs.Connecting.{going_on}
use Rattle.px_core.specs.Step.{frame_of, frame_answer}
use Rattle.px_state.specs.Tables.{state_of}
use Rattle.px_core.proofs.EventLaws.{ignored}
use Rattle.px_core.proofs.frames.take.Goals as goal

pub returns-in-None-clause-effects : goal.returns-in-None-clause-effects
returns-in-None-clause-effects g c =
    let state = state_of c.args.tables.now in
    ignored _ (Some c.args.conn) state (frame_answer state c.args.conn c.args.frame) c.new.result c.new.ensures
    (ap (λ cs. frame_of state (going_on cs c.args.conn) c.args.frame) (sym c.deref.ensures.value) ∙ ap (λ o. frame_of state o c.args.frame) (sym c.in-None.ensures))
