use Rattle.std.proofs.Common.{ℕ, List, ◌++◌, ap, sym, ◌∙◌}
use Rattle.px_app.specs.Summary.{sink_line}
use Rattle.px_app.proofs.SummaryLaws.{lines_none, lines_some}
use Rattle.px_app.proofs.summary.summary.Goals as goal
use Rattle.px_app.proofs.summary.summary.Goals.{in-Some+in_ok-add_line, in_default}

pub loop-i-preserved : goal.loop-i-preserved
loop-i-preserved c = elim c.match-frames.branch [
  | in-Some+in_ok-add_line w ↦ (
      let f = w.in-Some.frames in
      let line = λ (name : List ℕ). c.loop-i.text ++ sink_line name f.consumed f.filled in
      lines_some c.loop-i.text c.match-frames.text c.loop-i.i c.args.sinks.now c.args.world.now.mixers w.index-sinks-i.result f c.loop-i-test.true (sym w.in-Some.is ∙ c.frames.ensures)
      (w.text-is ∙ w.in_ok-add_line.ensures ∙ ap line w.as_slice-name.ensures) ∙ c.loop-i.invariant)
  | in_default w ↦ lines_none c.loop-i.text c.match-frames.text c.loop-i.i c.args.sinks.now c.args.world.now.mixers c.loop-i-test.true (sym w.in_default.is ∙ c.frames.ensures) w.text-is ∙ c.loop-i.invariant
]
