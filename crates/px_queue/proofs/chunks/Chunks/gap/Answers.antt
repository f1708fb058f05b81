use Rattle.std.proofs.Common.{◌+◌, ◌<◌, ◌≤◌, ℕ, sym, subst, List, [], Option, arith, length}
use Rattle.std.specs.Prelude.{slice_index_or, IsSome}
use Rattle.px_queue.specs.Laid.{TOP}
use Rattle.px_queue.specs.Pieces.{Piece, end_of}
use Rattle.px_queue.proofs.Finding.{found, found_some, all_past, in_gap}
use Rattle.px_queue.proofs.chunks.Chunks.gap.Goals as goal

pub returns-then-place-len-clause-none : goal.returns-then-place-len-clause-none
returns-then-place-len-clause-none c =
    let d : Piece = record { at = 0; bytes = [] } in
    let v : List Piece = c.args.self.now.before in
    let k : ℕ = c.ended-place.result in
    λ j few. all_past 0 TOP v k c.args.from (c.args.from + j) (omega (arith, c.len.ensures, c.if-place-len.true)) c.ended-place.ensures.before (omega arith)

pub returns-then-first-from-clause-some : goal.returns-then-first-from-clause-some
returns-then-first-from-clause-some c =
    let d : Piece = record { at = 0; bytes = [] } in
    let v : List Piece = c.args.self.now.before in
    let k : ℕ = c.ended-place.result in
    let few : k < length v = omega (arith, c.len.ensures, c.if-place-len.false, c.ended-place.ensures.few) in
    let low : (slice_index_or v k d).at ≤ c.args.from = omega (arith, c.first-first.ensures.value d, c.if-first-from.true) in
    let high : c.args.from < end_of (slice_index_or v k d) = c.ended-place.ensures.behind d few in
    let same : c.args.from ≤ c.args.from = omega arith in
    λ _ some. subst (λ (o : Option ℕ). IsSome o) (sym (found 0 TOP v k c.args.from c.args.from d c.requires c.ended-place.ensures.before same few high)) (found_some (slice_index_or v k d) c.args.from low high)

pub returns-clause-none : goal.returns-clause-none
returns-clause-none c =
    let d : Piece = record { at = 0; bytes = [] } in
    let v : List Piece = c.args.self.now.before in
    let k : ℕ = c.ended-place.result in
    let few : k < length v = omega (arith, c.len.ensures, c.if-place-len.false, c.ended-place.ensures.few) in
    let high : c.args.from < end_of (slice_index_or v k d) = c.ended-place.ensures.behind d few in
    λ j less. in_gap 0 TOP v k c.args.from (c.args.from + j) d c.requires c.ended-place.ensures.before (omega arith) few (omega (arith, c.first-first.ensures.value d, less, c.least.ensures))
