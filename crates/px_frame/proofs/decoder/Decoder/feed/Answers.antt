use Rattle.std.proofs.Common.{◌≡◌, ◌∙◌, ℕ, List, sym, ap, subst}
use Rattle.px_frame.specs.declared.decoder.Stage.{Stage}
use Rattle.px_frame.specs.declared.decoder.Stage.TheVariants.{Within as within, Failed as failed}
use Rattle.px_frame.specs.declared.frame.Frame.{Frame}
use Rattle.px_frame.specs.Progress.{Progress, HasFed, Answers, GivesBodies}
use Rattle.px_frame.specs.Run.{progress_of}
use Rattle.px_frame.specs.Stage.{held_of}
use Rattle.px_frame.proofs.DecoderLemmas.{failed-more}
use Rattle.px_frame.proofs.RunLemmas.{run-answers, run-leaves, run-bodies}
use Rattle.px_frame.proofs.decoder.Decoder.feed.Goals as goal

-- what was fed, where the decoder's fields stand for where it was
fed_there : (p : Progress) (start : ℕ) (stage was : Stage) (fed : List ℕ) (before : List Frame) → progress_of start stage ≡ p → was ≡ stage → HasFed p fed before → HasFed (progress_of start was) fed before
fed_there p start stage was fed before view is h = subst (λ q. HasFed q fed before) (sym view ∙ ap (progress_of start) (sym is)) h

pub returns-in_ok-run-in-Within-clause-answers : goal.returns-in_ok-run-in-Within-clause-answers
returns-in_ok-run-in-Within-clause-answers g c =
    λ fed before h.
    let there = fed_there c.args.self.now c.self.inside.start c.self.inside.stage (within c.in-Within.part) fed before c.self.view_is c.in-Within.ensures.value h in
    subst (Answers fed before c.args.piece.now) (sym c.stand.ensures.answer)
    (run-answers c.self.inside.start fed (held_of c.in-Within.part) c.args.piece.now before c.in_ok-run-in-Within.run' c.in_ok-run-in-Within.ensures there)

pub returns-in_ok-run-in-Within-clause-leaves : goal.returns-in_ok-run-in-Within-clause-leaves
returns-in_ok-run-in-Within-clause-leaves g c =
    λ fed before h.
    let there = fed_there c.args.self.now c.self.inside.start c.self.inside.stage (within c.in-Within.part) fed before c.self.view_is c.in-Within.ensures.value h in
    rw (c.stand.ensures.answer, c.stand.ensures.stands)
    (run-leaves c.self.inside.start fed (held_of c.in-Within.part) c.args.piece.now before c.in_ok-run-in-Within.run' c.in_ok-run-in-Within.ensures there)

pub returns-in_ok-run-in-Within-clause-bodies : goal.returns-in_ok-run-in-Within-clause-bodies
returns-in_ok-run-in-Within-clause-bodies g c =
    subst GivesBodies (sym c.stand.ensures.answer)
    (run-bodies c.self.inside.start (held_of c.in-Within.part) c.args.piece.now c.in_ok-run-in-Within.run' c.in_ok-run-in-Within.ensures)

pub returns-in-Failed-clause-leaves : goal.returns-in-Failed-clause-leaves
returns-in-Failed-clause-leaves g c =
    λ fed before h.
    failed-more c.args.piece.now
    (fed_there c.args.self.now c.self.inside.start c.self.inside.stage (failed c.in-Failed.fault c.in-Failed.at) fed before c.self.view_is c.in-Failed.ensures.value h)
