use Rattle.std.proofs.Common.{arith, ◌≡◌, ◌+◌, ◌-◌, subst}
use Rattle.px_state.specs.Tables.{HavePlaces}
use Rattle.px_state.proofs.delayed.pass_first.Goals as goal

pub returns-then-d-input-clause-room : goal.returns-then-d-input-clause-room
returns-then-d-input-clause-room g c = λ n had.
    let one : n + c.args.left ≡ n + (c.args.left - 1) + 1 = omega (arith, c.if-left-gt0.true) in
    c.post.ensures.room (n + (c.args.left - 1)) (subst (λ m. HavePlaces m c.args.posted.now) one had)
