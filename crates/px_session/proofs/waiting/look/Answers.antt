use Rattle.std.proofs.Common.{ℕ, List, ap, sym, ◌∙◌, arith}
use Rattle.px_session.specs.Found.{place_at}
use Rattle.px_session.specs.Seen.{place_of}
use Rattle.px_session.proofs.Steady.{behind_rest, behind_fewer, answer}
use Rattle.px_session.proofs.SteadySession.{step_steady}
use Rattle.px_session.proofs.Answered.{step_lawful, step_forward}
use Rattle.px_session.proofs.waiting.look.Goals as goal

pub overflow_sub-result : goal.overflow_sub-result
overflow_sub-result c =
    let start = place_at c.args.at c.args.bytes.now in
    let after = place_of c.step.new.place in
    behind_fewer start after ((step_steady c.args.begun).stays_behind start ((c.in_ok-form.form, c.in_ok-form.step), after) c.in_ok-form.ensures)

pub returns-clause-finds : goal.returns-clause-finds
returns-clause-finds c =
    let start = place_at c.args.at c.args.bytes.now in
    let after = place_of c.step.new.place in
    let behind = behind_rest start after ((step_steady c.args.begun).stays_behind start ((c.in_ok-form.form, c.in_ok-form.step), after) c.in_ok-form.ensures) in
    (c.in_ok-form.ensures ∙ ap (λ (rest : List ℕ). answer ((c.in_ok-form.form, c.in_ok-form.step), place_at c.step.new.place.at rest)) (sym behind), omega arith)

pub returns-clause-lawful : goal.returns-clause-lawful
returns-clause-lawful c =
    let start = place_at c.args.at c.args.bytes.now in
    step_lawful c.args.begun start c.in_ok-form.form c.in_ok-form.step (place_of c.step.new.place) (λ i. omega (arith, c.type_inv.bytes i)) c.in_ok-form.ensures

pub returns-clause-forward : goal.returns-clause-forward
returns-clause-forward c =
    let start = place_at c.args.at c.args.bytes.now in
    step_forward c.args.begun start c.in_ok-form.form c.in_ok-form.step (place_of c.step.new.place) (λ i. omega (arith, c.type_inv.bytes i)) c.in_ok-form.ensures
