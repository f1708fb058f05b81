use Rattle.std.proofs.Common.{◌≡◌, ap, sym, ◌∙◌, arith}
use Rattle.px_stream.specs.HeldStream.{HeldStream}
use Rattle.px_model.specs.Queue.{Queue}
use Rattle.px_stream.proofs.Sounding.{written_resumes}
use Rattle.px_stream.proofs.state.StreamState.resumed_after.Goals as goal
use Rattle.px_stream.proofs.state.StreamState.resumed_after.Goals.{then-unaltered-eq0, else-unaltered-eq0}

pub returns-clause-sounds : goal.returns-clause-sounds
returns-clause-sounds c = elim c.if-unaltered-eq0.branch [
  | then-unaltered-eq0 w ↦ λ seek offset bytes k e past less.
      written_resumes c.args.self.now.stream seek offset c.args.frames bytes c.args.mixed c.args.unaltered k e
      (λ none. sym (w.holds.ensures ∙ ap (λ (v : HeldStream). Queue.hold v.stream.queue) c.self.view_is) ∙ sym w.value-is ∙ c.if-holds.false)
      (omega (arith, past, less, c.min.ensures, c.if-unaltered-mixed.false)) less
  | else-unaltered-eq0 w ↦ λ seek offset bytes k e past less.
      written_resumes c.args.self.now.stream seek offset c.args.frames bytes c.args.mixed c.args.unaltered k e
      (λ none. absurd (omega (arith, none, w.if-unaltered-eq0.false)))
      (omega (arith, past, less, c.min.ensures, c.if-unaltered-mixed.false)) less
]
