use Rattle.std.proofs.Common.{◌<◌, ℕ, ◌∙◌, [], arith}
use Rattle.std.specs.Prelude.{slice_index_or}
use Rattle.px_queue.specs.Pieces.{Piece}
use Rattle.px_queue.proofs.Finding.{part_get}
use Rattle.px_queue.proofs.chunks.Chunks.lend.Goals as goal

pub returns-clause-bytes : goal.returns-clause-bytes
returns-clause-bytes c =
    let d : Piece = record { at = 0; bytes = [] } in
    let len : ℕ = c.part_at-place.result.1 in
    let p : Piece = slice_index_or c.args.self.now.before c.part_at-place.result.0 d in
    let some : 0 < len = omega (arith, c.if-len-eq0.false) in
    λ j few.
    let less : j < len = omega (arith, few, c.bytes.ensures.size) in
    c.part_at-place.ensures.bytes d j less ∙ part_get p c.args.from len j c.bytes.result.now (c.part_at-place.ensures.first d some) (c.bytes.ensures.value d) less
