use Rattle.std.proofs.Common.{◌≡◌, ◌+◌, ◌*◌, ◌/◌, ◌<◌, ◌≤◌, ℕ, ap, sym, subst, ◌∙◌, List, ◌++◌, Some, None, arith, take, drop, length, length-take}
use Rattle.std.specs.Prelude.{◌≤ℤ◌}
use Rattle.std.proofs.Math.Nat.{add-mul, mul-le-mul_right}
use Rattle.px_model.specs.Index.{onward, FIRST}
use Rattle.px_model.specs.Held.{place}
use Rattle.px_model.proofs.Places.{place_past}
use Rattle.px_queue.specs.HeldQueue.{HeldQueue}
use Rattle.px_queue.specs.Pieces.{Piece}
use Rattle.px_queue.specs.Framed.{byte_index, held_from}
use Rattle.px_queue.proofs.Framing.{held_length}
use Rattle.px_queue.proofs.Copying.{quotient, run_frames, run_end}
use Rattle.px_queue.proofs.queue.FrameQueue.copy_frames.Goals as goal

pub returns-then-k-self-clause-end : goal.returns-then-k-self-clause-end
returns-then-k-self-clause-end c =
    let d = c.self.inside in
    let ps : List Piece = d.chunks.before in
    λ _. subst (λ (v : HeldQueue). place v.queue.held (c.args.k + 0) ≡ None) c.self.view_is
    (place_past (held_from d.frame ps d.read d.held) (c.args.k + 0) (omega (arith, held_length d.frame ps d.read d.held, c.if-k-self.true)))

pub returns-clause-frames : goal.returns-clause-frames
returns-clause-frames c =
    let d = c.self.inside in
    let ps : List Piece = d.chunks.before in
    let laid = c.self.invariant.2 in
    let low : FIRST ≤ℤ d.read = c.self.invariant.1.read_in_range.0 in
    let from : c.byte_index-from.result ≡ byte_index d.frame (onward d.read c.args.k) = c.byte_index-from.ensures.value ∙ ap (byte_index d.frame) c.onward.ensures in
    let m : ℕ = c.run.result / d.frame in
    let part : List ℕ = c.copy_from.new.out in
    let rest : List ℕ = drop (m * d.frame) c.args.out.now in
    let frame : d.frame ≡ c.args.self.now.frame = ap (λ (v : HeldQueue). v.frame) c.self.view_is in
    let near = quotient c.run.result d.frame laid.some in
    let fits : c.args.most * d.frame ≤ length c.args.out.now = subst (λ (n : ℕ). c.args.most * n ≤ length c.args.out.now) (sym frame) c.requires in
    let long : length (take (m * d.frame) c.args.out.now) ≡ m * d.frame = omega (arith, length-take (m * d.frame) c.args.out.now, near.0, c.run.ensures.few, fits) in
    let same : length part ≡ m * d.frame = c.copy_from.auto.out ∙ long in
    λ j few. subst (λ (v : HeldQueue). place v.queue.held (c.args.k + j) ≡ Some (take v.frame (drop (j * v.frame) (part ++ rest)))) c.self.view_is
    (run_frames d.frame ps d.read d.held laid.ends low c.args.k c.byte_index-from.result from part rest m same (λ t less. c.copy_from.ensures t (omega (arith, less, same, long))) j few)

pub returns-clause-end : goal.returns-clause-end
returns-clause-end c =
    let d = c.self.inside in
    let ps : List Piece = d.chunks.before in
    let laid = c.self.invariant.2 in
    let low : FIRST ≤ℤ d.read = c.self.invariant.1.read_in_range.0 in
    let from : c.byte_index-from.result ≡ byte_index d.frame (onward d.read c.args.k) = c.byte_index-from.ensures.value ∙ ap (byte_index d.frame) c.onward.ensures in
    let r : ℕ = c.run.result in
    let m : ℕ = r / d.frame in
    let near = quotient r d.frame laid.some in
    λ few.
    let next : m + 1 ≤ c.args.most = omega arith in
    let less : r < c.args.most * d.frame = omega (arith, near.1, mul-le-mul_right d.frame next, add-mul m 1 d.frame) in
    subst (λ (v : HeldQueue). place v.queue.held (c.args.k + m) ≡ None) c.self.view_is
    (run_end d.frame ps d.read d.held laid.ends low c.args.k c.byte_index-from.result from m r near.0 near.1 (c.run.ensures.end less))
