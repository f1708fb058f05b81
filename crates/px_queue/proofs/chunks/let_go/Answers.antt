use Rattle.std.proofs.Common.{ℕ, ap, ◌∙◌, Option}
use Rattle.px_block.specs.Given.{after_giving}
use Rattle.px_block.specs.Shelved.{references_to, blocks_on}
use Rattle.px_block.proofs.Giving.{giving_both}
use Rattle.px_queue.proofs.Tied.{freed_count, same_count}
use Rattle.px_queue.proofs.chunks.let_go.Goals as goal

pub returns-in-Some-clause-given : goal.returns-in-Some-clause-given
returns-in-Some-clause-given g c =
    let given = g.B.BlockSource.given c.args.source.now in
    let left = blocks_on c.release.new.self in
    ap (λ (o : Option ℕ). after_giving o left) c.give.ensures
    ∙ giving_both given 1 left
    ∙ ap (λ (n : ℕ). after_giving given n) (freed_count c.args.shelf.now c.release.new.self c.args.key c.release.ensures.slots (ap references_to c.in-Some.ensures.block))

pub returns-in_default-clause-given : goal.returns-in_default-clause-given
returns-in_default-clause-given g c =
    ap (λ (n : ℕ). after_giving (g.B.BlockSource.given c.args.source.now) n)
    (same_count c.args.shelf.now c.release.new.self c.args.key c.release.ensures.slots c.in_default.ensures.block)
