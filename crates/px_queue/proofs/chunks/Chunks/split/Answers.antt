use Rattle.std.proofs.Common.{◌≡◌, ◌<◌, ◌≤◌, ℕ, ap, sym, subst, ◌∙◌, List, ◌∷◌, [], ◌++◌, arith, length}
use Rattle.px_queue.specs.Laid.{TOP}
use Rattle.px_queue.specs.Pieces.{Piece, Rise, byte_at, front_of, last_of, head_to, tail_from, end_of}
use Rattle.px_queue.proofs.Bytes.{front_last}
use Rattle.px_queue.proofs.Cutting.{cut_rise, rise_behind, rise_prefix, split_bytes, tail_end}
use Rattle.px_queue.proofs.chunks.Chunks.split.Goals as goal

pub returns-then-goes_past-clause-bytes : goal.returns-then-goes_past-clause-bytes
returns-then-goes_past-clause-bytes c =
    let v : List Piece = c.args.self.now.before in
    let u : List Piece = c.args.self.now.behind in
    let some : 0 < length v = c.goes_past.ensures.some c.if-goes_past.true in
    let order : (last_of v).at ≤ c.args.at = omega (arith, c.requires.last some) in
    λ i. ap (λ (ps : List Piece). byte_at (ps ++ c.split_last.new.self.behind) i) c.split_last.ensures.before
    ∙ ap (λ (ps : List Piece). byte_at ((front_of v ++ head_to (last_of v) c.args.at ∷ []) ++ ps) i) c.split_last.ensures.behind
    ∙ split_bytes (front_of v) u (last_of v) c.args.at i order
    ∙ ap (λ (ps : List Piece). byte_at (ps ++ u) i) (sym (front_last v some))

pub returns-then-goes_past-clause-before : goal.returns-then-goes_past-clause-before
returns-then-goes_past-clause-before c =
    let v : List Piece = c.args.self.now.before in
    let u : List Piece = c.args.self.now.behind in
    let some : 0 < length v = c.goes_past.ensures.some c.if-goes_past.true in
    let order : (last_of v).at ≤ c.args.at = omega (arith, c.requires.last some) in
    subst (Rise 0 c.args.at) (sym c.split_last.ensures.before)
    (cut_rise 0 TOP (front_of v) (last_of v) c.args.at (subst (Rise 0 TOP) (front_last v some) (rise_prefix 0 TOP v u c.requires.rising)) order)

pub returns-then-goes_past-clause-behind : goal.returns-then-goes_past-clause-behind
returns-then-goes_past-clause-behind c =
    let v : List Piece = c.args.self.now.before in
    let u : List Piece = c.args.self.now.behind in
    let some : 0 < length v = c.goes_past.ensures.some c.if-goes_past.true in
    let order : (last_of v).at ≤ c.args.at = omega (arith, c.requires.last some) in
    let end : end_of (tail_from (last_of v) c.args.at) ≡ end_of (last_of v) = tail_end (last_of v) c.args.at order (c.goes_past.ensures.yes c.if-goes_past.true) in
    let rest : Rise (end_of (last_of v)) TOP u = rise_behind 0 TOP (front_of v) (last_of v) u (subst (λ (xs : List Piece). Rise 0 TOP (xs ++ u)) (front_last v some) c.requires.rising) in
    let at : c.args.at ≤ c.args.at = omega arith in
    subst (Rise c.args.at TOP) (sym c.split_last.ensures.behind) (at, subst (λ (n : ℕ). Rise n TOP u) (sym end) rest)

pub returns-else-goes_past-clause-before : goal.returns-else-goes_past-clause-before
returns-else-goes_past-clause-before c =
    c.goes_past.ensures.no c.if-goes_past.false TOP (rise_prefix 0 TOP c.args.self.now.before c.args.self.now.behind c.requires.rising)
