use Rattle.std.proofs.Common.{◌≡◌, ◌<◌, List, arith, length}
use Rattle.px_queue.specs.Pieces.{Piece, last_of, end_of}
use Rattle.px_queue.proofs.Bytes.{rise_none, rise_until, rise_higher}
use Rattle.px_queue.proofs.chunks.Chunks.goes_past.Goals as goal

pub returns-then-len-eq0-clause-no : goal.returns-then-len-eq0-clause-no
returns-then-len-eq0-clause-no c =
    let none : length c.args.self.now.before ≡ 0 = omega (arith, c.len.ensures, c.if-len-eq0.true) in
    λ _ high rise. rise_none 0 high c.args.at c.args.self.now.before rise none (omega arith)

pub returns-clause-no : goal.returns-clause-no
returns-clause-no c =
    let v : List Piece = c.args.self.now.before in
    let some : 0 < length v = omega (arith, c.len.ensures, c.if-len-eq0.false) in
    λ no high rise. rise_higher 0 (end_of (last_of v)) c.args.at v (grind (arith, c.last_end.ensures.value, no)) (rise_until 0 high v rise some)
