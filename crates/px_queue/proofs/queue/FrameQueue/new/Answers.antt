use Rattle.std.proofs.Common.{◌≡◌, ℕ, ◌+◌, ◌≤◌, [], refl, ap, sym, subst, arith, List}
use Rattle.std.proofs.lemmas.Int.{ints}
use Rattle.std.proofs.lemmas.Bool.{false≢true}
use Rattle.px_model.specs.Index.{IsIndex}
use Rattle.px_queue.specs.Pieces.{Piece, byte_at, Rise}
use Rattle.px_queue.specs.Laid.{TOP}
use Rattle.px_queue.specs.Framed.{byte_index}
use Rattle.px_queue.proofs.Framing.{none_from}
use Rattle.px_queue.proofs.queue.FrameQueue.new.Goals as goal

pub invariant_of-result : goal.invariant_of-result
invariant_of-result c =
    let size : ℕ = c.args.frame_size in
    let none : c.new.result.before ≡ [] = c.new.ensures.before in
    let low : 0 ≤ TOP = omega arith in (
      refl,
      record {
        trimmed = λ h. absurd (omega arith);
        read_in_range = subst IsIndex (sym c.zero.ensures) (omega (arith, ints), omega (arith, ints));
        write_in_range = subst IsIndex (sym c.zero-2.ensures) (omega (arith, ints), omega (arith, ints));
        held_in_range = omega (arith, ints, c.zero.ensures);
        hold_has_prebuf = λ on. absurd (false≢true on);
      },
      record {
        some = c.requires;
        rising = subst (Rise 0 TOP) (sym none) low;
        rest = c.new.ensures.behind;
        ends = λ i past. none_from (byte_at c.new.result.before) (byte_index size i) size 0 c.requires (ap (λ (ps : List Piece). byte_at ps (byte_index size i + 0)) none);
        room = omega arith;
        block_room = omega arith;
      },
    )
