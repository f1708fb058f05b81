use Rattle.std.proofs.Common.{◌≡◌, ◌<◌, ℕ, false, ap, sym, subst, ◌∙◌, List, arith}
use Rattle.std.specs.Prelude.{ℤ, nat_lt, ◌&&◌}
use Rattle.px_model.specs.Index.{above, onward}
use Rattle.px_model.specs.Queue.{Queue, IsQueue, left_of, is_short}
use Rattle.px_model.specs.Going.{queue_after}
use Rattle.px_model.proofs.Forward.{step_of, runs_out, queue_after_keeps}
use Rattle.px_queue.specs.HeldQueue.{HeldQueue}
use Rattle.px_queue.specs.Pieces.{Piece}
use Rattle.px_queue.specs.Framed.{queue_of, step_by, EndsBy}
use Rattle.px_queue.proofs.Framing.{held_length, ends_moved}
use Rattle.px_queue.proofs.Moving.{gone, step_is}
use Rattle.px_queue.proofs.queue.FrameQueue.go.Goals as goal

pub returns-clause-queue : goal.returns-clause-queue
returns-clause-queue c =
    let d = c.self.inside in
    let ps : List Piece = d.chunks.before in
    let q : Queue = queue_of d.frame ps d.read d.held d.write d.hold d.prebuf in
    let left : c.left-left.result ≡ left_of q = c.left-left.ensures ∙ sym (ap (λ (v : HeldQueue). left_of v.queue) c.self.view_is) in
    let long : is_short q ≡ false = ap (λ (v : HeldQueue). is_short v.queue) c.self.view_is ∙ sym c.is_short.ensures ∙ c.if-is_short.false in
    let some : 0 < c.args.frames = omega (arith, c.if-frames-eq0.false) in
    let step : c.step-step.result ≡ step_of q c.args.frames =
    c.step-step.ensures
    ∙ ap (λ (room : ℕ). step_by d.prebuf c.args.frames room c.left-left.result) (c.above.ensures ∙ ap (λ (i : ℤ). above i d.read) c.last.ensures)
    ∙ step_is q c.args.frames c.left-left.result left in
    let on : c.runs_out-self-inside.result ≡ runs_out q c.args.frames =
    c.runs_out-self-inside.ensures ∙ ap (λ (n : ℕ). nat_lt 0 d.prebuf && nat_lt n c.args.frames) left in
    ap (λ (i : ℤ). queue_of d.frame ps i c.saturating_sub-self-inside.result d.write c.runs_out-self-inside.result d.prebuf) c.onward-self-inside.ensures
    ∙ ap (λ (n : ℕ). queue_of d.frame ps (onward d.read c.step-step.result) n d.write c.runs_out-self-inside.result d.prebuf) c.saturating_sub-self-inside.ensures
    ∙ gone d.frame ps d.read d.held d.write d.hold d.prebuf c.args.frames c.step-step.result c.runs_out-self-inside.result c.self.invariant.1 long some step on
    ∙ ap (λ (v : HeldQueue). queue_after v.queue c.args.frames) c.self.view_is

pub invariant_of-self : goal.invariant_of-self
invariant_of-self c =
    let d = c.self.inside in
    let ps : List Piece = d.chunks.before in
    let q : Queue = queue_of d.frame ps d.read d.held d.write d.hold d.prebuf in
    let same = returns-clause-queue c ∙ sym (ap (λ (v : HeldQueue). queue_after v.queue c.args.frames) c.self.view_is) in
    let laid = c.self.invariant.2 in
    let moved : EndsBy d.frame ps c.onward-self-inside.result c.saturating_sub-self-inside.result =
    subst (λ (i : ℤ). EndsBy d.frame ps i c.saturating_sub-self-inside.result) (sym c.onward-self-inside.ensures)
    (subst (λ (n : ℕ). EndsBy d.frame ps (onward d.read c.step-step.result) n) (sym c.saturating_sub-self-inside.ensures) (ends_moved d.frame ps d.read d.held c.step-step.result laid.ends)) in (
      sym (held_length d.frame ps c.onward-self-inside.result c.saturating_sub-self-inside.result),
      subst IsQueue (sym same) (queue_after_keeps q c.self.invariant.1 c.args.frames),
      record { some = laid.some; rising = laid.rising; rest = laid.rest; ends = moved; room = laid.room; block_room = laid.block_room },
    )
