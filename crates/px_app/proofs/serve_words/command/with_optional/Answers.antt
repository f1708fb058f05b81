use Rattle.std.proofs.Common.{◌∙◌, ap₂}
use Rattle.std.proofs.lemmas.Result.{IfOk-weaker}
use Rattle.clap.specs.Words.{with_rule}
use Rattle.px_app.proofs.serve_words.command.with_optional.Goals as goal

pub returns : goal.returns
returns c = IfOk-weaker c.arg.result _ _ (λ more adds. adds.shape c.tape.ensures.own ∙ ap₂ with_rule c.in_ok-with_named.ensures c.tape.ensures.rule) c.arg.ensures
