use Rattle.std.proofs.Common.{Bool, true, false, ◌+◌, arith, subst}
use Rattle.px_kernel.specs.Kernel.{AreReady}
use Rattle.px_kernel.proofs.Changing.{four_changed}
use Rattle.px_kernel.proofs.Fours.{fits_at, written_at, is_at}
use Rattle.px_kernel.proofs.change.change_four.Goals as goal

pub overflow_add-lanes-then-add : goal.overflow_add-lanes-then-add
overflow_add-lanes-then-add c =
    let sums = c.args.sums.now in
    let values = c.args.values.now in
    let factor = c.args.factor in
    let from = c.args.from in
    let ready : AreReady true sums values factor from = subst (λ (b : Bool). AreReady b sums values factor from) c.if-add.true c.requires.ready in
    rw c.share_lanes-shares.ensures (
      fits_at true sums values factor from ready c.requires.small from (omega arith) (omega (arith, c.requires.inside)),
      (
        fits_at true sums values factor from ready c.requires.small (from + 1) (omega arith) (omega (arith, c.requires.inside)),
        (
          fits_at true sums values factor from ready c.requires.small (from + 2) (omega arith) (omega (arith, c.requires.inside)),
          (fits_at true sums values factor from ready c.requires.small (from + 3) (omega arith) (omega (arith, c.requires.inside)), tt),
        ),
      ),
    )

pub overflow_sub-lanes : goal.overflow_sub-lanes
overflow_sub-lanes c =
    let sums = c.args.sums.now in
    let values = c.args.values.now in
    let factor = c.args.factor in
    let from = c.args.from in
    let ready : AreReady false sums values factor from = subst (λ (b : Bool). AreReady b sums values factor from) c.if-add.false c.requires.ready in
    rw c.share_lanes-shares.ensures (
      fits_at false sums values factor from ready c.requires.small from (omega arith) (omega (arith, c.requires.inside)),
      (
        fits_at false sums values factor from ready c.requires.small (from + 1) (omega arith) (omega (arith, c.requires.inside)),
        (
          fits_at false sums values factor from ready c.requires.small (from + 2) (omega arith) (omega (arith, c.requires.inside)),
          (fits_at false sums values factor from ready c.requires.small (from + 3) (omega arith) (omega (arith, c.requires.inside)), tt),
        ),
      ),
    )

pub put_four-requires-clause-room : goal.put_four-requires-clause-room
put_four-requires-clause-room c =
    let sums = c.args.sums.now in
    let values = c.args.values.now in
    let factor = c.args.factor in
    let from = c.args.from in
    let ready : AreReady true sums values factor from = subst (λ (b : Bool). AreReady b sums values factor from) c.if-add.true c.requires.ready in
    rw c.share_lanes-shares.ensures (
      written_at true sums values factor from ready c.requires.small from (omega arith) (omega (arith, c.requires.inside)),
      (
        written_at true sums values factor from ready c.requires.small (from + 1) (omega arith) (omega (arith, c.requires.inside)),
        (
          written_at true sums values factor from ready c.requires.small (from + 2) (omega arith) (omega (arith, c.requires.inside)),
          (written_at true sums values factor from ready c.requires.small (from + 3) (omega arith) (omega (arith, c.requires.inside)), tt),
        ),
      ),
    )

pub put_four-requires-else-add-clause-room : goal.put_four-requires-else-add-clause-room
put_four-requires-else-add-clause-room c =
    let sums = c.args.sums.now in
    let values = c.args.values.now in
    let factor = c.args.factor in
    let from = c.args.from in
    let ready : AreReady false sums values factor from = subst (λ (b : Bool). AreReady b sums values factor from) c.if-add.false c.requires.ready in
    rw c.share_lanes-shares.ensures (
      written_at false sums values factor from ready c.requires.small from (omega arith) (omega (arith, c.requires.inside)),
      (
        written_at false sums values factor from ready c.requires.small (from + 1) (omega arith) (omega (arith, c.requires.inside)),
        (
          written_at false sums values factor from ready c.requires.small (from + 2) (omega arith) (omega (arith, c.requires.inside)),
          (written_at false sums values factor from ready c.requires.small (from + 3) (omega arith) (omega (arith, c.requires.inside)), tt),
        ),
      ),
    )

pub returns-then-add : goal.returns-then-add
returns-then-add c =
    let sums = c.args.sums.now in
    let values = c.args.values.now in
    let factor = c.args.factor in
    let from = c.args.from in
    let ready : AreReady true sums values factor from = subst (λ (b : Bool). AreReady b sums values factor from) c.if-add.true c.requires.ready in
    rw (c.put_four.ensures, c.share_lanes-shares.ensures, c.if-add.true)
    (four_changed true sums values factor from _ _ _ _ c.requires.inside
    (is_at true sums values factor from ready c.requires.small from (omega arith) (omega (arith, c.requires.inside)))
    (is_at true sums values factor from ready c.requires.small (from + 1) (omega arith) (omega (arith, c.requires.inside)))
    (is_at true sums values factor from ready c.requires.small (from + 2) (omega arith) (omega (arith, c.requires.inside)))
    (is_at true sums values factor from ready c.requires.small (from + 3) (omega arith) (omega (arith, c.requires.inside))))

pub returns-else-add : goal.returns-else-add
returns-else-add c =
    let sums = c.args.sums.now in
    let values = c.args.values.now in
    let factor = c.args.factor in
    let from = c.args.from in
    let ready : AreReady false sums values factor from = subst (λ (b : Bool). AreReady b sums values factor from) c.if-add.false c.requires.ready in
    rw (c.put_four-else-add.ensures, c.share_lanes-shares.ensures, c.if-add.false)
    (four_changed false sums values factor from _ _ _ _ c.requires.inside
    (is_at false sums values factor from ready c.requires.small from (omega arith) (omega (arith, c.requires.inside)))
    (is_at false sums values factor from ready c.requires.small (from + 1) (omega arith) (omega (arith, c.requires.inside)))
    (is_at false sums values factor from ready c.requires.small (from + 2) (omega arith) (omega (arith, c.requires.inside)))
    (is_at false sums values factor from ready c.requires.small (from + 3) (omega arith) (omega (arith, c.requires.inside))))
