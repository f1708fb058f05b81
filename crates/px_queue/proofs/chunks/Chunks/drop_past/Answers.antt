use Rattle.std.proofs.Common.{◌<◌, ◌≤◌, ap, sym, subst, ◌∙◌, List, [], arith, length}
use Rattle.px_queue.specs.Laid.{TOP}
use Rattle.px_queue.specs.Pieces.{Piece, Rise, byte_at, end_of}
use Rattle.px_queue.proofs.Dropping.{rest_rise, rest_bytes, rest_short}
use Rattle.std.specs.Prelude.{slice_index_or}
use Rattle.px_queue.proofs.chunks.Chunks.drop_past.Goals as goal

pub loop-self-preserved : goal.loop-self-preserved
loop-self-preserved g c =
    let d : Piece = record { at = 0; bytes = [] } in
    let v : List Piece = c.loop-self.self.before in
    let some : 0 < length v = c.ends_by.ensures.some c.loop-self-test.true in
    let past : end_of (slice_index_or v 0 d) ≤ c.args.from = c.ends_by.ensures.yes c.loop-self-test.true d in
    record {
      rising = subst (Rise 0 TOP) (sym c.drop_first.ensures.before) (rest_rise TOP v c.loop-self.invariant.rising);
      bytes = λ i from. ap (λ (ps : List Piece). byte_at ps i) c.drop_first.ensures.before ∙ rest_bytes v i d (omega (arith, past, from)) ∙ c.loop-self.invariant.bytes i from;
      behind = c.drop_first.ensures.behind ∙ c.loop-self.invariant.behind;
      room = omega (arith, c.drop_first.ensures.room, c.loop-self.invariant.room);
      block_room = omega (arith, c.drop_first.ensures.block_room, c.loop-self.invariant.block_room);
      given = c.drop_first.ensures.given ∙ c.loop-self.invariant.given;
    }

pub loop-self-smaller : goal.loop-self-smaller
loop-self-smaller g c =
    let v : List Piece = c.loop-self.self.before in
    let some : 0 < length v = c.ends_by.ensures.some c.loop-self-test.true in
    omega (arith, ap (λ (ps : List Piece). length ps) c.drop_first.ensures.before, rest_short v some)
