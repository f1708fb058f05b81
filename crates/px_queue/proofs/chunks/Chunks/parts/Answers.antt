use Rattle.std.proofs.Common.{◌≡◌, ◌-◌, ◌≤◌, ℕ, suc, subst, List, [], arith, take}
use Rattle.std.specs.Prelude.{slice_index_or}
use Rattle.std.proofs.lemmas.Bool.{leb-true}
use Rattle.px_queue.specs.Laid.{TOP}
use Rattle.px_queue.specs.Pieces.{Piece, Rise, end_of}
use Rattle.px_queue.proofs.Finding.{rise_take}
use Rattle.px_queue.proofs.chunks.Chunks.parts.Goals as goal

pub returns-clause-before : goal.returns-clause-before
returns-clause-before c =
    let d : Piece = record { at = 0; bytes = [] } in
    let v : List Piece = c.args.self.now.before in
    λ yes.
    let near = c.args.near in
    let past : end_of (slice_index_or v (near - 1) d) ≤ c.args.from = omega (arith, c.end-2.ensures.value d, leb-true c.end-2.result c.args.from yes) in
    let next : suc (near - 1) ≡ near = omega (arith, c.if-near-eq0.false) in
    subst (λ (n : ℕ). Rise 0 c.args.from (take n v)) next (rise_take 0 TOP v (near - 1) c.args.from d c.requires (omega (arith, c.len.ensures, c.if-near-len.false)) past)
