use Rattle.std.proofs.Common.{arith, ◌≡◌, ◌<◌, Some, OnSome, sym, subst, ◌∙◌}
use Rattle.std.proofs.lemmas.List.Quantifiers.{position-Some}
use Rattle.std.specs.List.{position, remove}
use Rattle.std.specs.VecDeque.{deque_len}
use Rattle.px_state.specs.State.{is_as}
use Rattle.px_input_table.proofs.First.{dropped, undropped}
use Rattle.px_state.proofs.awaited.answer.Goals as goal

pub returns-in-Some-clause-items : goal.returns-in-Some-clause-items
returns-in-Some-clause-items c =
    let q = c.args.waiting.now in
    let place = c.in-Some.place in
    let found : position (is_as c.args.w.now) q.items ≡ Some place = sym c.in-Some.ensures in
    let within : place < deque_len q = omega (arith, (position-Some (is_as c.args.w.now) q.items place c.args.w.now found).0, q.ok.0) in
    subst (λ r. OnSome r (c.remove.new.self.items ≡ remove q.items place)) (c.remove.ensures.succeeds c.args.w.now within) c.remove.ensures.items ∙ dropped (is_as c.args.w.now) q.items place c.args.w.now found

pub returns-in_default-clause-items : goal.returns-in_default-clause-items
returns-in_default-clause-items c = undropped (is_as c.args.w.now) c.args.waiting.now.items (sym c.in_default.ensures)
