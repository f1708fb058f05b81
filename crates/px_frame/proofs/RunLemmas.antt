-- What a run answers, and where it leaves a decoder.
use Rattle.std.proofs.Common.{ℕ, List, []}
use Rattle.px_frame.specs.declared.decoder.Run.{Run}
use Rattle.px_frame.specs.declared.decoder.Run.TheVariants.{Fed, Broken}
use Rattle.px_frame.specs.declared.frame.Frame.{Frame}
use Rattle.px_frame.specs.Feeding.{Feeds}
use Rattle.px_frame.specs.Progress.{Answers, Leaves, GivesBodies}
use Rattle.px_frame.specs.Run.{IsRun, IsRemaining, answer_of, end_of}
use Rattle.px_frame.proofs.BodyLemmas.{bodies-read}
use Rattle.px_frame.proofs.DecoderLemmas.{read-fed, fed-on, fed-broken}

-- the part that it leaves
pub run-remaining : (start : ℕ) (held piece : List ℕ) (run : Run) → IsRun start held piece run → IsRemaining run
run-remaining start held piece (Fed frames part end) ran = ran.1
run-remaining start held piece (Broken frames fault at) ran = tt

module _ (start : ℕ) (fed held piece : List ℕ) (before : List Frame) where
  -- its answer, of all that was fed
  pub run-answers : (run : Run) → IsRun start held piece run → Feeds 0 [] fed before start held [] → Answers fed before piece (answer_of run)
  run-answers (Fed frames part end) ran there = read-fed (fed-on there ran.0)
  run-answers (Broken frames fault at) ran there = (fed-broken there ran, read-fed there)

  -- where the decoder stands then
  pub run-leaves : (run : Run) → IsRun start held piece run → Feeds 0 [] fed before start held [] → Leaves (end_of run) fed before piece (answer_of run)
  run-leaves (Fed frames part end) ran there = fed-on there ran.0
  run-leaves (Broken frames fault at) ran there = fed-broken there ran

-- its frames say what a frame can say
pub run-bodies : (start : ℕ) (held piece : List ℕ) (run : Run) → IsRun start held piece run → GivesBodies (answer_of run)
run-bodies start held piece (Fed frames part end) ran = bodies-read ran.0.splits
run-bodies start held piece (Broken frames fault at) ran = bodies-read ran.splits
