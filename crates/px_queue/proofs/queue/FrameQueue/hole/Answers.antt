use Rattle.std.proofs.Common.{◌≡◌, ◌+◌, ◌*◌, ◌/◌, ◌<◌, ℕ, ap, sym, subst, ◌∙◌, List, None, arith}
use Rattle.std.specs.Prelude.{IsSome, ◌≤ℤ◌}
use Rattle.px_model.specs.Index.{onward, FIRST}
use Rattle.px_model.specs.Held.{place}
use Rattle.px_model.proofs.Places.{place_past}
use Rattle.px_queue.specs.HeldQueue.{HeldQueue}
use Rattle.px_queue.specs.Pieces.{Piece, byte_at}
use Rattle.px_queue.specs.Framed.{byte_index, held_from}
use Rattle.px_queue.proofs.Framing.{held_length}
use Rattle.px_queue.proofs.Copying.{quotient, run_end, run_some, held_gap, wide, gap_fits, first_or_fits}
use Rattle.px_queue.proofs.queue.FrameQueue.hole.Goals as goal

pub returns-then-k-self-clause-holes : goal.returns-then-k-self-clause-holes
returns-then-k-self-clause-holes c =
    let d = c.self.inside in
    let ps : List Piece = d.chunks.before in
    λ j less. subst (λ (v : HeldQueue). place v.queue.held (c.args.k + j) ≡ None) c.self.view_is
    (place_past (held_from d.frame ps d.read d.held) (c.args.k + j) (omega (arith, held_length d.frame ps d.read d.held, c.if-k-self.true)))

pub returns-then-run-size-clause-none : goal.returns-then-run-size-clause-none
returns-then-run-size-clause-none c =
    let d = c.self.inside in
    let ps : List Piece = d.chunks.before in
    let laid = c.self.invariant.2 in
    let low : FIRST ≤ℤ d.read = c.self.invariant.1.read_in_range.0 in
    let from : c.byte_index-from.result ≡ byte_index d.frame (onward d.read c.args.k) = c.byte_index-from.ensures.value ∙ ap (byte_index d.frame) c.onward.ensures in
    λ _. subst (λ (v : HeldQueue). IsSome (place v.queue.held c.args.k)) c.self.view_is
    (run_some d.frame ps d.read d.held laid.ends low c.args.k c.byte_index-from.result from (λ t few. c.run-run.ensures.held t (omega (arith, few, c.if-run-size.true))))

pub returns-then-run-gt0-clause-holes : goal.returns-then-run-gt0-clause-holes
returns-then-run-gt0-clause-holes c =
    let d = c.self.inside in
    let ps : List Piece = d.chunks.before in
    let laid = c.self.invariant.2 in
    let low : FIRST ≤ℤ d.read = c.self.invariant.1.read_in_range.0 in
    let from : c.byte_index-from.result ≡ byte_index d.frame (onward d.read c.args.k) = c.byte_index-from.ensures.value ∙ ap (byte_index d.frame) c.onward.ensures in
    let r : ℕ = c.run-run.result in
    let less : r < d.frame = omega (arith, c.run-run.ensures.few, c.if-run-size.false) in
    λ j one. subst (λ (v : HeldQueue). place v.queue.held (c.args.k + j) ≡ None) c.self.view_is
    (subst (λ (i : ℕ). place (held_from d.frame ps d.read d.held) (c.args.k + i) ≡ None) (omega arith)
    (run_end d.frame ps d.read d.held laid.ends low c.args.k c.byte_index-from.result from 0 r (omega arith) (omega arith) (c.run-run.ensures.end less)))

pub returns-clause-holes : goal.returns-clause-holes
returns-clause-holes c =
    let d = c.self.inside in
    let ps : List Piece = d.chunks.before in
    let laid = c.self.invariant.2 in
    let low : FIRST ≤ℤ d.read = c.self.invariant.1.read_in_range.0 in
    let from : c.byte_index-from.result ≡ byte_index d.frame (onward d.read c.args.k) = c.byte_index-from.ensures.value ∙ ap (byte_index d.frame) c.onward.ensures in
    let g : ℕ = c.gap.result in
    let near = quotient g d.frame laid.some in
    let none : byte_at ps (c.byte_index-from.result + c.run-run.result) ≡ None = c.run-run.ensures.end (omega (arith, c.run-run.ensures.few, c.if-run-size.false)) in
    let here : c.byte_index-from.result + c.run-run.result ≡ c.byte_index-from.result = omega (arith, c.if-run-gt0.false) in
    let some : 0 < g = held_gap ps c.byte_index-from.result g (ap (byte_at ps) (sym here) ∙ none) (λ e. c.gap.ensures.some e (wide c.args.most d.frame c.requires.some laid.some)) in
    λ j less. subst (λ (v : HeldQueue). place v.queue.held (c.args.k + j) ≡ None) c.self.view_is
    (run_end d.frame ps d.read d.held laid.ends low c.args.k c.byte_index-from.result from j (j * d.frame) (omega arith) (omega (arith, laid.some))
    (c.gap.ensures.none (j * d.frame) (gap_fits j g d.frame some laid.some (first_or_fits j c.max.result (g / d.frame) less c.max.ensures))))
