use Rattle.std.proofs.Common.{◌∙◌, ap₂, refl}
use Rattle.std.proofs.lemmas.Result.{IfOk-weaker}
use Rattle.clap.specs.Words.{with_rule}
use Rattle.px_app.proofs.serve_words.command.with_sources.Goals as goal

pub returns : goal.returns
returns c =
    let header = c.in_ok-arg.ensures.shape c.path.ensures.own ∙ ap₂ with_rule refl c.path.ensures.rule in
    IfOk-weaker c.arg-2.result _ _ (λ more adds. adds.shape c.path-2.ensures.own ∙ ap₂ with_rule header c.path-2.ensures.rule) c.arg-2.ensures
