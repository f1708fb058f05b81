use Rattle.std.proofs.Common.{◌∙◌, ap, sym, Some, option_map}
use Rattle.std.proofs.lemmas.Result.{IfOk-weaker}
use Rattle.clap.specs.Words.{found_of}
use Rattle.clap.proofs.WalkLemmas.{first_value-rows}
use Rattle.px_app.proofs.Texts.{some_text}
use Rattle.px_app.proofs.serve_words.options.value.Goals as goal

pub unwrap-requires : goal.unwrap-requires
unwrap-requires c =
    some_text (λ s. s.now) c.get_str.result _ (c.get_str.ensures ∙ first_value-rows (found_of c.args.matches.now) c.args.name.now) c.requires

pub returns : goal.returns
returns c =
    let found = sym (first_value-rows (found_of c.args.matches.now) c.args.name.now) ∙ sym c.get_str.ensures
    ∙ ap (option_map (λ s. s.now)) c.unwrap.ensures ∙ ap Some (sym c.as_bytes.ensures.value) in
    IfOk-weaker c.copied.result _ _ (λ text e. found ∙ ap Some (sym e)) c.copied.ensures
