use Rattle.std.proofs.Common.{Some, sym, ap, ◌∙◌}
use Rattle.px_names.specs.InputLists.{is_of}
use Rattle.px_names.proofs.Listed.{found_there, unfound}
use Rattle.px_names.proofs.input_lists.entry_of.Goals as goal

pub returns-in-None : goal.returns-in-None
returns-in-None c = sym (unfound (is_of c.args.input) c.args.lists.now (sym c.in-None.ensures))

pub returns-in-Some : goal.returns-in-Some
returns-in-Some c =
    ap Some c.index-lists-place.is ∙ sym (found_there (is_of c.args.input) c.args.lists.now c.in-Some.place c.index-lists-place.result (sym c.in-Some.ensures))
