use Rattle.std.proofs.Common.{◌++◌, ◌∷◌, [], ◌∙◌, ap, refl, List}
use Rattle.std.proofs.lemmas.Result.{err_from_is_err_and}
use Rattle.px_workers.proofs.starting.add_sink.Goals as goal

pub returns-clause-ok : goal.returns-clause-ok
returns-clause-ok g c = (
  c.push_back_reserved.ensures.items
      ∙ ap (λ (l : List _). l ++ c.in_ok-run.run' ∷ []) c.reserve.ensures.items
      ∙ ap (λ (x : _). c.args.sinks.now.items ++ x ∷ []) c.in_ok-run.ensures.ok.0,
  c.in_ok-run.ensures.ok.1,
)

pub returns-clause-err : goal.returns-clause-err
returns-clause-err g c = tt

pub returns-in_err-run-clause-ok : goal.returns-in_err-run-clause-ok
returns-in_err-run-clause-ok g c = let p = err_from_is_err_and c.from_residual.result c.from_residual.ensures.1 in rw (p.1) tt

pub returns-then-is_err-clause-ok : goal.returns-then-is_err-clause-ok
returns-then-is_err-clause-ok g c = tt

pub returns-then-is_err-clause-err : goal.returns-then-is_err-clause-err
returns-then-is_err-clause-err g c = (refl, c.reserve.ensures.items, refl)
