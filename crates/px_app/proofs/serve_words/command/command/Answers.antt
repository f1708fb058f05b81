use Rattle.std.proofs.Common.{◌≡◌, ◌∙◌, ap, codes, true}
use Rattle.std.proofs.lemmas.Result.{IfOk-weaker}
use Rattle.clap.specs.Words.{App, app_of, new_app, with_rule}
use Rattle.clap.specs.Simple.{Shape, app_of_fields, on_top}
use Rattle.px_app.specs.ServeCommand.{accept_rule, option_rule, path_rule, tape_rule}
use Rattle.px_app.proofs.serve_words.command.command.Goals as goal

abbrev without_help : Shape → Shape
without_help s = record s { disable_help_flag = true }

abbrev after_paths : App → App
after_paths app = with_rule (with_rule (with_rule app (path_rule (codes "header"))) (path_rule (codes "socket"))) (path_rule (codes "out"))

abbrev after_others : App → App
after_others app = with_rule (with_rule (with_rule (with_rule app accept_rule) (option_rule (codes "history"))) (option_rule (codes "source"))) tape_rule

pub returns : goal.returns
returns c =
    let empty : app_of c.disable_help_flag-empty.result ≡ on_top without_help (new_app (codes "serve")) =
    ap app_of_fields c.disable_help_flag-empty.ensures ∙ ap (on_top without_help) c.new.ensures.app in
    IfOk-weaker c.with_others.result _ _ (λ command same. same ∙ ap after_others (c.in_ok-with_paths.ensures ∙ ap after_paths empty)) c.with_others.ensures
