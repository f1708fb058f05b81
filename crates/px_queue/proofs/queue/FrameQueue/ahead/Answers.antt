use Rattle.std.proofs.Common.{◌≡◌, ◌<◌, ℕ, false, ap, sym, ◌∙◌, List, arith}
use Rattle.std.specs.Prelude.{ℤ}
use Rattle.px_model.specs.Index.{above, onward}
use Rattle.px_model.specs.Queue.{Queue, left_of, is_short}
use Rattle.px_model.specs.Going.{queue_after}
use Rattle.px_model.proofs.Forward.{step_of, on_step, after_on}
use Rattle.px_queue.specs.HeldQueue.{HeldQueue}
use Rattle.px_queue.specs.Pieces.{Piece}
use Rattle.px_queue.specs.Framed.{queue_of, step_by}
use Rattle.px_queue.proofs.Moving.{step_is}
use Rattle.px_queue.proofs.queue.FrameQueue.ahead.Goals as goal

pub returns : goal.returns
returns c =
    let d = c.self.inside in
    let ps : List Piece = d.chunks.before in
    let q : Queue = queue_of d.frame ps d.read d.held d.write d.hold d.prebuf in
    let left : c.left.result ≡ left_of q = c.left.ensures ∙ sym (ap (λ (v : HeldQueue). left_of v.queue) c.self.view_is) in
    let long : is_short q ≡ false = ap (λ (v : HeldQueue). is_short v.queue) c.self.view_is ∙ sym c.is_short.ensures ∙ c.if-is_short.false in
    let some : 0 < c.args.frames = omega (arith, c.if-frames-eq0.false) in
    let step : c.step-step.result ≡ step_of q c.args.frames =
    c.step-step.ensures
    ∙ ap (λ (room : ℕ). step_by d.prebuf c.args.frames room c.left.result) (c.above.ensures ∙ ap (λ (i : ℤ). above i d.read) c.last.ensures)
    ∙ step_is q c.args.frames c.left.result left in
    c.onward.ensures
    ∙ ap (λ (n : ℕ). onward d.read n) step
    ∙ ap (λ (v : Queue). v.read) (sym (on_step q c.self.invariant.1 c.args.frames) ∙ sym (after_on q c.args.frames long some))
    ∙ ap (λ (v : HeldQueue). Queue.read (queue_after v.queue c.args.frames)) c.self.view_is
