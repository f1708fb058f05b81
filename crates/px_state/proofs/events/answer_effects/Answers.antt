use Rattle.std.proofs.Common.{sym, ap, subst, ◌∙◌}
use Rattle.px_outcome.specs.Outcome.{OutcomeParts}
use Rattle.px_subscribe.specs.Moments.{AreShown}
use Rattle.px_state.specs.State.{State}
use Rattle.px_state.specs.Change.{committed}
use Rattle.px_state.specs.Tables.{state_of}
use Rattle.px_state.proofs.AddedLaws.{answer_added}
use Rattle.px_state.proofs.events.answer_effects.Goals as goal

pub add_events-requires-clause-after : goal.add_events-requires-clause-after
add_events-requires-clause-after g c =
    subst (λ l. AreShown (State.inputs (committed (state_of c.args.tables.now) l)))
    (sym (c.deref.ensures.value ∙ ap (λ (p : OutcomeParts _ _). p.changes) c.outcome.view_is)) c.requires.after

pub returns : goal.returns
returns g c =
    answer_added _ c.args.asker (state_of c.args.tables.now) c.args.outcome.now c.in_ok-effects.effects c.add_events.new.effects c.deref.result.now
    c.in_ok-effects.ensures (c.deref.ensures.value ∙ ap (λ (p : OutcomeParts _ _). p.changes) c.outcome.view_is) c.in_ok-add_events.ensures
