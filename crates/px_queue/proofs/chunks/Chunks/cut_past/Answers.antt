use Rattle.std.proofs.Common.{◌<◌, ◌≤◌, ap, sym, subst, ◌∙◌, List, [], length}
use Rattle.px_queue.specs.Laid.{TOP}
use Rattle.px_queue.specs.Pieces.{Piece, Rise, byte_at, end_of}
use Rattle.px_queue.proofs.Dropping.{held_rise, cut_first_rise, cut_first_bytes}
use Rattle.std.specs.Prelude.{slice_index_or}
use Rattle.px_queue.proofs.chunks.Chunks.cut_past.Goals as goal

pub returns-then-begins_below-clause-rising : goal.returns-then-begins_below-clause-rising
returns-then-begins_below-clause-rising c =
    let d : Piece = record { at = 0; bytes = [] } in
    let v : List Piece = c.args.self.now.before in
    let some : 0 < length v = c.begins_below.ensures.some c.if-begins_below.true in
    let from : (slice_index_or v 0 d).at ≤ c.args.from = c.begins_below.ensures.yes c.if-begins_below.true d in
    let to : c.args.from ≤ end_of (slice_index_or v 0 d) = c.requires.first d some in
    subst (Rise c.args.from TOP) (sym (c.cut_first.ensures.before d)) (cut_first_rise TOP v c.args.from d some c.requires.rising from to)

pub returns-then-begins_below-clause-bytes : goal.returns-then-begins_below-clause-bytes
returns-then-begins_below-clause-bytes c =
    let d : Piece = record { at = 0; bytes = [] } in
    let v : List Piece = c.args.self.now.before in
    let some : 0 < length v = c.begins_below.ensures.some c.if-begins_below.true in
    let from : (slice_index_or v 0 d).at ≤ c.args.from = c.begins_below.ensures.yes c.if-begins_below.true d in
    let to : c.args.from ≤ end_of (slice_index_or v 0 d) = c.requires.first d some in
    λ i high. ap (λ (ps : List Piece). byte_at ps i) (c.cut_first.ensures.before d) ∙ cut_first_bytes v c.args.from i d some from high

pub returns-else-begins_below-clause-rising : goal.returns-else-begins_below-clause-rising
returns-else-begins_below-clause-rising c =
    let d : Piece = record { at = 0; bytes = [] } in
    held_rise TOP c.args.self.now.before c.args.from d c.requires.top c.requires.rising (c.begins_below.ensures.no c.if-begins_below.false d)
