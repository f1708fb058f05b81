use Rattle.std.proofs.Common.{◌≡◌, ◌+◌, ℕ, ap, sym, subst, ◌∙◌, List, ◌++◌, arith, length}
use Rattle.px_queue.specs.Laid.{TOP}
use Rattle.px_queue.specs.Pieces.{Piece, Rise, byte_at}
use Rattle.px_queue.proofs.Bytes.{rise_both, none_low}
use Rattle.px_queue.proofs.Laying.{over_bytes}
use Rattle.px_queue.proofs.chunks.Chunks.write.Goals as goal

pub returns-clause-rising : goal.returns-clause-rising
returns-clause-rising g c =
    let ps : List Piece = c.put.new.self.before in
    let qs : List Piece = c.clear.new.self.behind in
    let rest : Rise (c.args.at + length c.args.bytes) TOP qs = subst (λ (m : ℕ). Rise m TOP qs) c.requires.end c.clear.ensures.behind in
    subst (Rise 0 TOP) (sym (c.join.ensures.before ∙ ap (λ (xs : List Piece). ps ++ xs) c.put.ensures.behind))
    (rise_both 0 (c.args.at + length c.args.bytes) TOP ps qs c.put.ensures.rising rest)

pub returns-clause-bytes : goal.returns-clause-bytes
returns-clause-bytes g c =
    let ps : List Piece = c.clear.new.self.before in
    let qs : List Piece = c.clear.new.self.behind in
    let end : c.args.end ≡ c.args.at + length c.args.bytes = c.requires.end in
    λ i. ap (λ (xs : List Piece). byte_at xs i) (c.join.ensures.before ∙ ap (λ (xs : List Piece). c.put.new.self.before ++ xs) c.put.ensures.behind)
    ∙ over_bytes ps qs c.args.self.now.before c.args.at i c.args.bytes c.put.new.self.before c.put.ensures.bytes c.clear.ensures.before c.clear.ensures.low
    (λ j low. none_low c.args.end TOP qs j c.clear.ensures.behind (omega (arith, low, end)))
    (λ j high. c.clear.ensures.high j (omega (arith, high, end)))
