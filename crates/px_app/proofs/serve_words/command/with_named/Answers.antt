use Rattle.std.proofs.Common.{◌∙◌, ap₂, refl}
use Rattle.std.proofs.lemmas.Result.{IfOk-weaker}
use Rattle.clap.specs.Words.{with_rule}
use Rattle.px_app.proofs.serve_words.command.with_named.Goals as goal

pub returns : goal.returns
returns c =
    let history = c.in_ok-arg.ensures.shape c.option.ensures.own ∙ ap₂ with_rule refl c.option.ensures.rule in
    IfOk-weaker c.arg-2.result _ _ (λ more adds. adds.shape c.option-2.ensures.own ∙ ap₂ with_rule history c.option-2.ensures.rule) c.arg-2.ensures
