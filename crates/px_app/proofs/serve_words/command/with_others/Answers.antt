use Rattle.std.proofs.Common.{◌∙◌, ap, ap₂, codes, refl}
use Rattle.std.proofs.lemmas.Result.{IfOk-weaker}
use Rattle.clap.specs.Words.{App, with_rule}
use Rattle.px_app.specs.ServeCommand.{option_rule, tape_rule}
use Rattle.px_app.proofs.serve_words.command.with_others.Goals as goal

abbrev after_optional : App → App
after_optional app = with_rule (with_rule (with_rule app (option_rule (codes "history"))) (option_rule (codes "source"))) tape_rule

pub returns : goal.returns
returns c =
    let accept = c.in_ok-arg.ensures.shape c.accept.ensures.own ∙ ap₂ with_rule refl c.accept.ensures.rule in
    IfOk-weaker c.with_optional.result _ _ (λ more same. same ∙ ap after_optional accept) c.with_optional.ensures
