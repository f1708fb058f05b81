use Rattle.std.proofs.Common.{◌≡◌, sym, ◌∙◌}
use Rattle.px_ends.specs.Visible.{after_adding}
use Rattle.px_ends.specs.Whole.{AddsFront}
use Rattle.px_app.specs.Ends.{ends_of}
use Rattle.px_app.proofs.PlayLaws.{counted_from}
use Rattle.px_app.proofs.FlushLaws.{grew_more, reached_flushed, reached_cut, failed_says, flushed_says}
use Rattle.px_app.proofs.playing.Playing.run.Goals as goal
use Rattle.px_app.proofs.playing.Playing.run.Goals.{else-is_piece-via-then-is_piece+else-is_err, else-is_piece-via-else-is_piece}

pub returns-in-Err-clause-counted : goal.returns-in-Err-clause-counted
returns-in-Err-clause-counted g c =
    counted_from c.finish.result
    (ends_of (g.S.Source.left c.args.input.now) (g.S.Source.faults c.args.input.now) (g.K.Sink.held c.args.output.now) (g.K.Sink.faults c.args.output.now))
    (ends_of (g.S.Source.left c.loop-ended.input) (g.S.Source.faults c.loop-ended.input) (g.K.Sink.held c.loop-ended.output) (g.K.Sink.faults c.loop-ended.output))
    (ends_of (g.S.Source.left c.step.new.input) (g.S.Source.faults c.step.new.input) (g.K.Sink.held c.finish.new.output) (g.K.Sink.faults c.finish.new.output))
    (c.loop-ended.invariant.read, c.loop-ended.invariant.written)
    (c.finish.ensures.counted (g.S.Source.left c.loop-ended.input) (g.S.Source.left c.step.new.input) (g.S.Source.faults c.loop-ended.input) (g.S.Source.faults c.step.new.input) c.in-Err.ensures.reads)

pub returns-then-is_err-clause-played : goal.returns-then-is_err-clause-played
returns-then-is_err-clause-played g c = λ asked first written r grew.
    let held = g.K.Sink.held c.loop-ended.output in
    let now = g.K.Sink.held c.flush.new.output in
    reached_cut g.T.Stage.mode g.T.Stage.stands asked c.step.new.self first (g.S.Source.left c.step.new.input) held now (g.S.Source.faults c.step.new.input) written
    (c.loop-ended.invariant.grew first grew)
    (failed_says c.flush.result (AddsFront c.step.new.self.pieces.bytes held now) (sym c.is_err.ensures.value ∙ c.if-is_err.true) c.flush.ensures.err)
    (c.in_default.ensures.stepped asked first held written (c.loop-ended.invariant.reached asked first written r))

pub loop-ended-preserved : goal.loop-ended-preserved
loop-ended-preserved g c = elim c.else-is_piece.branch [
  | else-is_piece-via-then-is_piece+else-is_err w ↦ (
      let held = g.K.Sink.held c.loop-ended.output in
      let now = g.K.Sink.held w.flush.new.output in
      let fine = sym w.is_err.ensures.value ∙ w.if-is_err.false in
      let wrote = flushed_says w.flush.result (now ≡ after_adding held c.step.new.self.pieces.bytes) fine w.flush.ensures.ok in
      let same = flushed_says w.flush.result (g.K.Sink.faults w.flush.new.output ≡ g.K.Sink.faults c.loop-ended.output) fine w.flush.ensures.ok_count in
      rw (w.self-is, w.output-is) (record {
        reached = λ asked first written r. reached_flushed g.T.Stage.mode g.T.Stage.stands asked c.step.new.self first (g.S.Source.left c.step.new.input) held now (g.S.Source.faults c.step.new.input) written w.flush.new.self wrote w.flush.ensures.empty
            (c.in_default.ensures.stepped asked first held written (c.loop-ended.invariant.reached asked first written r));
        grew = λ first grew. grew_more first.held held now c.step.new.self.pieces.bytes (c.loop-ended.invariant.grew first grew) wrote;
        begun = c.in_default.ensures.begun;
        counts = c.in_default.ensures.counts;
        read = c.in_default.ensures.reads ∙ c.loop-ended.invariant.read;
        written = same ∙ c.loop-ended.invariant.written;
      }))
  | else-is_piece-via-else-is_piece w ↦ rw (w.self-is, w.output-is) (record {
    reached = λ asked first written r. c.in_default.ensures.stepped asked first (g.K.Sink.held c.loop-ended.output) written (c.loop-ended.invariant.reached asked first written r);
    grew = λ first grew. c.loop-ended.invariant.grew first grew;
    begun = c.in_default.ensures.begun;
    counts = c.in_default.ensures.counts;
    read = c.in_default.ensures.reads ∙ c.loop-ended.invariant.read;
    written = c.loop-ended.invariant.written;
  })
]
