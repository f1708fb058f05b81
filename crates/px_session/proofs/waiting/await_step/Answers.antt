use Rattle.std.proofs.Common.{ℕ, List, ◌+◌, ◌≤◌, ◌^◌, length, subst}
use Rattle.px_session.proofs.LastByte.{open_within, falls}
use Rattle.px_session.proofs.waiting.await_step.Goals as goal

pub loop-read-smaller : goal.loop-read-smaller
loop-read-smaller g c =
    let comes = rw c.in-Came.is at c.in_ok-more.ensures.gives in
    let within = open_within c.args.begun c.args.at c.as_slice.result.now c.look.result c.look.ensures.finds c.in_default.ensures c.look.ensures.within in
    let held : c.args.at + length c.loop-read.held ≤ 2 ^ 40 = subst (λ (bytes : List ℕ). c.args.at + length bytes ≤ 2 ^ 40) c.as_slice.ensures within in
    falls c.args.at c.loop-read.held c.more.new.self comes.bytes held comes.held comes.some
