use Rattle.std.proofs.Common.{◌≡◌, ◌+◌, ◌*◌, ◌/◌, ◌≤◌, ℕ, false, ap, sym, subst, ◌∙◌, List, Some, arith, take, drop, length, length-take}
use Rattle.std.specs.Prelude.{◌≤ℤ◌}
use Rattle.px_model.specs.Index.{onward, FIRST}
use Rattle.px_model.specs.Held.{place}
use Rattle.px_model.specs.Queue.{is_short}
use Rattle.px_model.proofs.Places.{get-take}
use Rattle.px_queue.specs.HeldQueue.{HeldQueue}
use Rattle.px_queue.specs.Pieces.{Piece}
use Rattle.px_queue.specs.Framed.{byte_index}
use Rattle.px_queue.proofs.Copying.{quotient, run_lent, held_sounds, lent_few}
use Rattle.px_queue.proofs.queue.FrameQueue.lend.Goals as goal

pub returns : goal.returns
returns c =
    let d = c.self.inside in
    let now : HeldQueue = c.args.self.now in
    let ps : List Piece = d.chunks.before in
    let laid = c.self.invariant.2 in
    let low : FIRST ≤ℤ d.read = c.self.invariant.1.read_in_range.0 in
    let from : c.byte_index-from.result ≡ byte_index d.frame (onward d.read c.args.k) = c.byte_index-from.ensures.value ∙ ap (byte_index d.frame) c.onward.ensures in
    let bytes : List ℕ = c.lend-bytes.result.now in
    let m : ℕ = length bytes / d.frame in
    let part : List ℕ = take (m * d.frame) bytes in
    let near = quotient (length bytes) d.frame laid.some in
    let long : length part ≡ m * d.frame = omega (arith, length-take (m * d.frame) bytes, near.0) in
    let few : m ≤ c.args.most = lent_few m c.args.most d.frame (omega (arith, near.0, c.lend-bytes.ensures.few)) laid.some in
    let short : is_short now.queue ≡ false = sym c.is_short.ensures ∙ c.if-is_short.false in (
      m,
      record {
        few = few;
        size = long ∙ ap (λ (v : HeldQueue). m * v.frame) c.self.view_is;
        frames = λ j less. held_sounds now.queue (c.args.k + j) (take now.frame (drop (j * now.frame) part)) short
            (subst (λ (v : HeldQueue). place v.queue.held (c.args.k + j) ≡ Some (take v.frame (drop (j * v.frame) part))) c.self.view_is
            (run_lent d.frame ps d.read d.held laid.ends low c.args.k c.byte_index-from.result from part m long
            (λ t within. c.lend-bytes.ensures.bytes t (omega (arith, within, long, near.0)) ∙ sym (get-take (m * d.frame) bytes t (omega (arith, within, long)))) j less));
      },
    )
