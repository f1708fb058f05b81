use Rattle.std.proofs.Common.{◌∙◌, ap, sym, codes, inl, inr, option_map}
use Rattle.std.specs.Str.Parse.{ParsesUnsigned, ExplainsUnsignedError, HasUnsignedDigitsIfOk}
use Rattle.std.proofs.lemmas.Result.{err_from_is_err_and}
use Rattle.clap.specs.Words.{found_of, rows_of}
use Rattle.clap.proofs.WalkLemmas.{first_value-rows, one_text-rows}
use Rattle.px_app.specs.ServeCommand.{history_of, is_set, number, source_of}
use Rattle.px_app.proofs.ServeReading.{unknown_source}
use Rattle.px_app.proofs.Texts.{is_there, links_one}
use Rattle.px_app.proofs.serve_words.options.options.Goals as goal

pub returns-in_default : goal.returns-in_default
returns-in_default c =
    inr (inl (ap history_of (sym (c.get_str.ensures ∙ first_value-rows (found_of c.args.matches.now) (codes "history"))) ∙ sym c.history.ensures
    ∙ c.in_default.is))

pub returns-in_err-source : goal.returns-in_err-source
returns-in_err-source c =
    let found = rows_of (found_of c.args.matches.now) in
    let same = c.get_str-2.ensures ∙ first_value-rows (found_of c.args.matches.now) (codes "source") in
    let p = err_from_is_err_and c.from_residual.result c.from_residual.ensures.1 in
    rw (p.1, p.2) (unknown_source found (option_map (λ text. text.now) c.get_str-2.result) c.in_err-source.field-0.0 same c.in_err-source.ensures)

pub unwrap-accept-requires : goal.unwrap-accept-requires
unwrap-accept-requires c =
    let links = c.requires.accept in
    is_there c.get_one.result (number links.0)
    (links_one _ (λ bs r. ParsesUnsigned 16 10 bs r × ExplainsUnsignedError 10 bs r × HasUnsignedDigitsIfOk bs r) links.0 c.get_one.result
    (c.get_one.ensures.value links.0 (one_text-rows (found_of c.args.matches.now) (codes "accept") ∙ links.1)) (λ u x g. g.0) links.2)

pub returns : goal.returns
returns c =
    let links = c.requires.accept in
    let one = links_one _ (λ bs r. ParsesUnsigned 16 10 bs r × ExplainsUnsignedError 10 bs r × HasUnsignedDigitsIfOk bs r) links.0 c.get_one.result
    (c.get_one.ensures.value links.0 (one_text-rows (found_of c.args.matches.now) (codes "accept") ∙ links.1)) (λ u x g. g.0) links.2 in
    record {
      header = c.in_ok-header.ensures;
      socket = c.in_ok-socket.ensures;
      out = c.in_ok-out.ensures;
      accept = ap (option_map number) links.1 ∙ (sym one ∙ c.unwrap-accept.ensures);
      history = ap history_of (sym (c.get_str.ensures ∙ first_value-rows (found_of c.args.matches.now) (codes "history"))) ∙ sym c.history.ensures ∙ c.in-Some.is;
      tape = c.is_set-tape.ensures ∙ ap is_set (c.get_str-3.ensures ∙ first_value-rows (found_of c.args.matches.now) (codes "tape"));
      source = ap source_of (sym (c.get_str-2.ensures ∙ first_value-rows (found_of c.args.matches.now) (codes "source"))) ∙ c.in_ok-source.ensures;
    }
