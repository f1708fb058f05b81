use Rattle.std.specs.Prelude.{◌-ℤ◌}
use Rattle.std.proofs.lemmas.Int.{to_z-of_z}
use Rattle.px_queue.proofs.Ending.{past_is}
use Rattle.px_queue.proofs.index.Index.is_past.Goals as goal

pub returns : goal.returns
returns c =
    let further = simp (to_z-of_z, c.ranges.number, c.ranges.frames) at c.passes.ensures.yes in
    let near = simp (to_z-of_z, c.ranges.number, c.ranges.frames) at c.passes.ensures.no in
    past_is c.passes.result (c.args.self -ℤ c.args.number) c.args.frames further near
