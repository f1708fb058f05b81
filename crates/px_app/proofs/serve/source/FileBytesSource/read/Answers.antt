use Rattle.std.proofs.Common.{Some, ap, sym, ◌∙◌, rules}
use Rattle.std.proofs.lemmas.Grind.{common_steps}
use Rattle.px_ends.proofs.Filling.{departed}
use Rattle.px_app.proofs.serve.source.FileBytesSource.read.Goals as goal

pub returns-clause-bytes : goal.returns-clause-bytes
returns-clause-bytes c = record {
  some = grind (rules, common_steps);
  fit = grind (rules, common_steps);
  left = ap Some (sym c.self.view_is
      ∙ departed c.self.inside.bytes c.copy_front-count.new.buffer c.self.inside.at c.copy_front-count.result
      (rw c.as_slice.ensures at c.copy_front-count.ensures.front));
}
