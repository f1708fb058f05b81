use Rattle.std.proofs.Common.{◌++◌, sym, ◌∙◌}
use Rattle.px_lane_cell.proofs.Fronts.{more_bytes}
use Rattle.px_lane_cell.proofs.plain.bytes_of.Goals as goal

pub loop-block-preserved : goal.loop-block-preserved
loop-block-preserved c =
    let l = c.loop-block in
    c.in_ok-extend_from_slice.ensures.items ∙ (λ k. l.invariant k ++ c.bytes.ensures.bytes k)
    ∙ sym (more_bytes c.args.blocks.now l.block-index c.block-item.result c.loop-block-test.true c.block-item.is)
