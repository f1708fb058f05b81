use Rattle.std.proofs.Common.{sym, ap, ◌∙◌}
use Rattle.std.proofs.lemmas.Result.{IfOk-weaker}
use Rattle.px_state.specs.State.{connection_of}
use Rattle.px_state.specs.Tables.{state_of}
use Rattle.px_core.proofs.EventLaws.{is_there, isnt_there, there_admitted, full_admitted, joined_admitted}
use Rattle.px_core.proofs.connecting.connect.Goals as goal

pub returns-then-is_some-clause-effects : goal.returns-then-is_some-clause-effects
returns-then-is_some-clause-effects g c =
    let o = connection_of c.args.tables.now.connections.items c.args.conn in
    let found = c.connection_of.ensures ∙ ap (λ cs. connection_of cs c.args.conn) c.deref.ensures.value in
    there_admitted _ o c.args.conn (state_of c.args.tables.now) c.new.result (is_there _ c.connection_of.result o found (sym c.is_some.ensures ∙ c.if-is_some.true)) c.new.ensures

pub returns-then-is_full-clause-effects : goal.returns-then-is_full-clause-effects
returns-then-is_full-clause-effects g c =
    let o = connection_of c.args.tables.now.connections.items c.args.conn in
    let found = c.connection_of.ensures ∙ ap (λ cs. connection_of cs c.args.conn) c.deref.ensures.value in
    IfOk-weaker c.of.result _ _
    (λ effects is. full_admitted _ o c.args.conn (state_of c.args.tables.now) c.closed_for.result effects (isnt_there _ c.connection_of.result o found (sym c.is_some.ensures ∙ c.if-is_some.false))
    (sym c.is_full.ensures ∙ c.if-is_full.true) c.closed_for.ensures.value is)
    c.of.ensures

pub returns-clause-effects : goal.returns-clause-effects
returns-clause-effects g c =
    let o = connection_of c.args.tables.now.connections.items c.args.conn in
    let found = c.connection_of.ensures ∙ ap (λ cs. connection_of cs c.args.conn) c.deref.ensures.value in
    IfOk-weaker c.admit.result _ _
    (λ effects is. joined_admitted _ o c.args.conn (state_of c.args.tables.now) effects (isnt_there _ c.connection_of.result o found (sym c.is_some.ensures ∙ c.if-is_some.false))
    (sym c.is_full.ensures ∙ c.if-is_full.false) is)
    c.admit.ensures.effects
