use Rattle.std.proofs.Common.{◌∷◌, [], ◌++◌, sym, subst, ◌∙◌}
use Rattle.px_frame.specs.Progress.{HasFed}
use Rattle.px_frame.specs.Spelling.{spelling_of}
use Rattle.px_frame.proofs.PassingLemmas.{passed-on, passed-read}
use Rattle.px_frame.proofs.decoder.Decoder.pass_over.Goals as goal

pub returns-clause-answers : goal.returns-clause-answers
returns-clause-answers c = λ at fed before e there.
    passed-read at c.args.body.now fed before c.requires c.step_over.ensures.numbers c.args.self.now (sym c.step_over.ensures.at ∙ e) there

pub returns-clause-leaves : goal.returns-clause-leaves
returns-clause-leaves c = λ at fed before e there.
    subst (λ p. HasFed p (fed ++ spelling_of c.args.body.now) (before ++ record { at = at; body = c.args.body.now } ∷ [])) (sym c.step_over.ensures.new)
    (passed-on at c.args.body.now fed before c.requires c.step_over.ensures.numbers c.args.self.now (sym c.step_over.ensures.at ∙ e) there)
