use Rattle.std.proofs.Common.{sym, ap, ◌∙◌}
use Rattle.px_state.specs.State.{marked_of}
use Rattle.px_state.specs.Tables.{state_of}
use Rattle.px_core.proofs.Silent.{unswept_effects}
use Rattle.px_core.proofs.connecting.sweep_away.Goals as goal

pub returns-then-not-has_marked-clause-effects : goal.returns-then-not-has_marked-clause-effects
returns-then-not-has_marked-clause-effects g c =
    let none = ap marked_of (sym c.deref.ensures.value) ∙ c.has_marked.ensures c.if-not-has_marked.true in
    c.new.ensures ∙ sym (unswept_effects _ (state_of c.args.tables.now) none)
