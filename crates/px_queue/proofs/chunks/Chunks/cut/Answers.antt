use Rattle.std.proofs.Common.{◌<◌, ◌≤◌, ap, sym, subst, ◌∙◌, List, arith, length}
use Rattle.px_queue.specs.Pieces.{Piece, Rise, byte_at, front_of, last_of}
use Rattle.px_queue.proofs.Bytes.{front_last}
use Rattle.px_queue.proofs.Cutting.{cut_rise, cut_low}
use Rattle.px_queue.proofs.chunks.Chunks.cut.Goals as goal

pub returns-then-goes_past-clause-before : goal.returns-then-goes_past-clause-before
returns-then-goes_past-clause-before c =
    let v : List Piece = c.args.self.now.before in
    let u : List Piece = c.args.self.now.behind in
    let some : 0 < length v = c.goes_past.ensures.some c.if-goes_past.true in
    let order : (last_of v).at ≤ c.args.at = omega (arith, c.requires.last some) in
    subst (Rise 0 c.args.at) (sym c.cut_last.ensures.before)
    (cut_rise 0 c.requires.rising.0 (front_of v) (last_of v) c.args.at (subst (Rise 0 c.requires.rising.0) (front_last v some) c.requires.rising.2) order)

pub returns-then-goes_past-clause-low : goal.returns-then-goes_past-clause-low
returns-then-goes_past-clause-low c =
    let v : List Piece = c.args.self.now.before in
    let u : List Piece = c.args.self.now.behind in
    let some : 0 < length v = c.goes_past.ensures.some c.if-goes_past.true in
    λ i low. ap (λ (ps : List Piece). byte_at ps i) c.cut_last.ensures.before ∙ cut_low v c.args.at i some low

pub returns-else-goes_past-clause-before : goal.returns-else-goes_past-clause-before
returns-else-goes_past-clause-before c =
    c.goes_past.ensures.no c.if-goes_past.false c.requires.rising.0 c.requires.rising.2
