use Rattle.std.proofs.Common.{List, ℕ, inl, inr, refl, sym, subst, ◌∙◌}
use Rattle.px_types.specs.declared.status.Status.{Status}
use Rattle.px_ctl.specs.End.{Logs, line_of}
use Rattle.px_ctl.proofs.Reading.{reported_line, reported_done}
use Rattle.px_ctl.proofs.report.report_control.Goals as goal

pub returns-then-is_done : goal.returns-then-is_done
returns-then-is_done g c = reported_done _ _ _ _ _ c.args.end (sym c.is_done.ensures ∙ c.if-is_done.true) (refl, refl, refl)

pub returns-in-Ok : goal.returns-in-Ok
returns-in-Ok g c =
    let held = g.G.Sink.held c.args.log.now in
    let held' = g.G.Sink.held c.write_line.new.log in
    let faults = g.G.Sink.faults c.args.log.now in
    let faults' = g.G.Sink.faults c.write_line.new.log in
    reported_line _ _ _ _ _ c.args.end (sym c.is_done.ensures ∙ c.if-is_done.false)
    (inl (subst (λ (s : Status). Logs s (line_of c.args.end) c.write_line.result held held' faults faults') c.status.ensures
    (subst (λ (l : List ℕ). Logs c.status.result l c.write_line.result held held' faults faults') (c.as_bytes.ensures.value ∙ c.in-Ok.ensures) c.write_line.ensures)))

pub returns-in-Err : goal.returns-in-Err
returns-in-Err g c = reported_line _ _ _ _ _ c.args.end (sym c.is_done.ensures ∙ c.if-is_done.false) (inr c.write_line-in-Err.ensures)
