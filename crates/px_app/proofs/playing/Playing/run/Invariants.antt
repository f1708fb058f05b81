use Rattle.std.proofs.Common.{◌≡◌, ℕ, ◌^◌, ◌-◌, IsSome}
use Rattle.px_ends.specs.Visible.{after_adding}
use Rattle.px_app.specs.Ends.{Ends, ends_of, Grew}
use Rattle.px_app.specs.Step.{Reached}
use Rattle.px_app.proofs.playing.Playing.run.Given as goal

-- what was reached at first has gone on, what the output holds has only grown, and no read or write has failed
abbrev pub invariant-loop-ended : goal.invariant-loop-ended
invariant-loop-ended g l = record {
  reached : (asked : g.T.Stage.Asked) (first : Ends) (written : ℕ) → Reached g.T.Stage.mode g.T.Stage.stands asked l.fn.self first (ends_of (g.S.Source.left l.fn.input) (g.S.Source.faults l.fn.input) (after_adding (g.K.Sink.held l.fn.output) l.fn.self.pieces.bytes) written)
      → Reached g.T.Stage.mode g.T.Stage.stands asked l.self first (ends_of (g.S.Source.left l.input) (g.S.Source.faults l.input) (after_adding (g.K.Sink.held l.output) l.self.pieces.bytes) written);
  grew : (first : Ends) → Grew first.held (g.K.Sink.held l.fn.output) → Grew first.held (g.K.Sink.held l.output);
  begun : IsSome l.self.reader.begun;
  counts : g.T.Stage.counts l.self.stage l.self.reader.at;
  read : g.S.Source.faults l.input ≡ g.S.Source.faults l.fn.input;
  written : g.K.Sink.faults l.output ≡ g.K.Sink.faults l.fn.output;
}

-- how many bytes the session may still have
abbrev pub decreases-loop-ended : goal.decreases-loop-ended
decreases-loop-ended g l = 2 ^ 40 - l.self.reader.at
