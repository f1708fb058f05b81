use Rattle.std.proofs.Common.{◌≡◌, ◌+◌, ◌-◌, ◌≤◌, ◌/◌, ℕ, suc, subst, List, [], arith, take}
use Rattle.std.specs.Prelude.{slice_index_or}
use Rattle.px_queue.specs.Laid.{TOP}
use Rattle.px_queue.specs.Pieces.{Piece, Rise, end_of}
use Rattle.px_queue.proofs.Finding.{rise_take}
use Rattle.px_queue.proofs.chunks.Chunks.halved.Goals as goal

pub loop-low-preserved-then-end-from : goal.loop-low-preserved-then-end-from
loop-low-preserved-then-end-from c =
    let d : Piece = record { at = 0; bytes = [] } in
    let v : List Piece = c.args.self.now.before in
    let low = c.loop-low.low in
    let high = c.loop-low.high in
    let middle : ℕ = low + (high - low) / 2 in
    let order : middle + 1 ≤ high = grind (arith, c.loop-low-test.true) in
    let past : end_of (slice_index_or v middle d) ≤ c.args.from = omega (arith, c.end.ensures.value d, c.if-end-from.true) in
    let next : suc middle ≡ middle + 1 = omega arith in
    record {
      order = order;
      few = c.loop-low.invariant.few;
      before = subst (λ (n : ℕ). Rise 0 c.args.from (take n v)) next (rise_take 0 TOP v middle c.args.from d c.requires (omega (arith, order, c.loop-low.invariant.few)) past);
      behind = c.loop-low.invariant.behind;
    }
