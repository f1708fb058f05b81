use Rattle.std.proofs.Common.{ℕ, ◌<◌, refl, ap, sym, ◌∙◌, subst, arith}
use Rattle.px_msg.specs.View.{sample_spec}
use Rattle.px_model.specs.declared.data.Run.{Run}
use Rattle.px_model.specs.Queue.{Queue}
use Rattle.px_model.specs.Stream.{Stream, IsStream}
use Rattle.px_model.specs.Going.{queue_after, run_after}
use Rattle.px_model.proofs.Streams.{after_open, after_keeps}
use Rattle.px_stream.specs.HeldStream.{stream_of}
use Rattle.px_stream.proofs.Keeping.{mixable_as, after_prebuf}
use Rattle.px_stream.proofs.state.StreamState.go.Goals as goal

pub invariant_of-self : goal.invariant_of-self
invariant_of-self g c =
    let d = c.self.inside in
    let made = λ (q : Queue) (r : Run). stream_of q d.corked d.maxlength d.tlength d.minreq d.requested d.draining.items r (sample_spec d.spec) d.feed d.factors in
    let some : 0 < c.args.frames = omega (arith, c.if-frames-eq0.false) in
    let run = c.run_after-self-inside.ensures ∙ ap (λ (n : ℕ). run_after d.run n c.args.frames) c.given.ensures in
    let same = after_open (made d.queue.queue d.run) c.args.frames c.if-self.false some
    ∙ ap (λ (r : Run). made (queue_after d.queue.queue c.args.frames) r) (sym run)
    ∙ ap (λ (q : Queue). made q c.run_after-self-inside.result) (sym c.settle.ensures.queue) in (
      mixable_as (made d.queue.queue d.run) (made c.settle.new.self.queue c.run_after-self-inside.result) c.self.invariant.0
          (subst (λ (s : Stream). IsStream s) same (after_keeps (made d.queue.queue d.run) c.self.invariant.0.holds c.args.frames)) refl refl refl,
      c.settle.ensures.frame ∙ c.self.invariant.1,
      ap (λ (q : Queue). q.prebuf) c.settle.ensures.queue ∙ after_prebuf d.queue.queue c.args.frames ∙ c.self.invariant.2,
    )
