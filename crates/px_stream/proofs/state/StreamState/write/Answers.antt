use Rattle.std.proofs.Common.{◌≡◌, refl, ap, sym, ◌∙◌, subst, arith, w64, SFits, to_z, of_z}
use Rattle.std.specs.Prelude.{ℤ}
use Rattle.std.proofs.lemmas.Int.{to_z-of_z, to_z_pos}
use Rattle.px_msg.specs.View.{sample_spec}
use Rattle.px_model.specs.Frame.{frame_size, frames_of}
use Rattle.px_model.specs.Queue.{Queue}
use Rattle.px_model.specs.Stream.{Stream, IsStream}
use Rattle.px_model.specs.Going.{ahead_of}
use Rattle.px_model.specs.Write.{Outcome, stored, overflow, outside, target_of, seek_of}
use Rattle.px_model.specs.Applied.{written_by, write_outcome, is_refused}
use Rattle.px_model.proofs.Preserved.{written_keeps}
use Rattle.px_stream.specs.HeldStream.{HeldStream, stream_of}
use Rattle.px_stream.specs.Messages.{answer_for}
use Rattle.px_stream.proofs.Keeping.{mixable_as, written_prebuf, ahead_fits}
use Rattle.px_stream.proofs.Writing.{outcome_is, written_is}
use Rattle.px_stream.proofs.state.StreamState.write.Goals as goal

pub returns-in-Stored-clause-stream : goal.returns-in-Stored-clause-stream
returns-in-Stored-clause-stream g c =
    let d = c.self.inside in
    let s : Stream = stream_of d.queue.queue d.corked d.maxlength d.tlength d.minreq d.requested d.draining.items d.run (sample_spec d.spec) d.feed d.factors in
    let far = to_z-of_z w64 c.args.offset c.ranges.offset in
    let is : c.ahead_index-ahead.result ≡ ahead_of s c.args.mixed = c.ahead_index-ahead.ensures ∙ sym (ap (λ (v : HeldStream). ahead_of v.stream c.args.mixed) c.self.view_is) in
    let near = to_z-of_z w64 c.ahead_index-ahead.result (subst (λ (z : ℤ). SFits w64 z) (sym is) (ahead_fits s c.self.invariant.0.holds c.args.mixed)) ∙ is in
    let bound = to_z_pos w64 d.maxlength (omega (arith, c.self.invariant.0.holds.maxlength_bounded)) in
    let how = outcome_is s c.args.seek c.args.offset c.args.frames c.args.bytes c.args.mixed stored (to_z w64 (of_z w64 c.args.offset)) (to_z w64 (of_z w64 c.ahead_index-ahead.result)) (to_z w64 d.maxlength) far near bound c.in-Stored.ensures.outcome in
    written_is s c.args.seek c.args.offset c.args.frames c.args.bytes c.args.mixed stored c.push.new.self.queue d.queue.frame c.less-self-inside.result (to_z w64 (of_z w64 c.args.offset)) c.self.invariant.1 far c.less-self-inside.ensures how c.in-Stored.ensures.queue
    ∙ ap (λ (v : HeldStream). written_by c.args.seek c.args.offset c.args.frames c.args.bytes c.args.mixed v.stream) c.self.view_is

pub returns-in-Stored-clause-answer : goal.returns-in-Stored-clause-answer
returns-in-Stored-clause-answer g c =
    let d = c.self.inside in
    let s : Stream = stream_of d.queue.queue d.corked d.maxlength d.tlength d.minreq d.requested d.draining.items d.run (sample_spec d.spec) d.feed d.factors in
    let far = to_z-of_z w64 c.args.offset c.ranges.offset in
    let is : c.ahead_index-ahead.result ≡ ahead_of s c.args.mixed = c.ahead_index-ahead.ensures ∙ sym (ap (λ (v : HeldStream). ahead_of v.stream c.args.mixed) c.self.view_is) in
    let near = to_z-of_z w64 c.ahead_index-ahead.result (subst (λ (z : ℤ). SFits w64 z) (sym is) (ahead_fits s c.self.invariant.0.holds c.args.mixed)) ∙ is in
    let bound = to_z_pos w64 d.maxlength (omega (arith, c.self.invariant.0.holds.maxlength_bounded)) in
    let how = outcome_is s c.args.seek c.args.offset c.args.frames c.args.bytes c.args.mixed stored (to_z w64 (of_z w64 c.args.offset)) (to_z w64 (of_z w64 c.ahead_index-ahead.result)) (to_z w64 d.maxlength) far near bound c.in-Stored.ensures.outcome in
    ap (λ (o : Outcome). answer_for (is_refused o)) (how ∙ ap (λ (v : HeldStream). write_outcome v.stream c.args.seek c.args.offset c.args.frames c.args.bytes c.args.mixed) c.self.view_is)

pub invariant_of-self : goal.invariant_of-self
invariant_of-self g c =
    let d = c.self.inside in
    let s : Stream = stream_of d.queue.queue d.corked d.maxlength d.tlength d.minreq d.requested d.draining.items d.run (sample_spec d.spec) d.feed d.factors in
    let far = to_z-of_z w64 c.args.offset c.ranges.offset in
    let is : c.ahead_index-ahead.result ≡ ahead_of s c.args.mixed = c.ahead_index-ahead.ensures ∙ sym (ap (λ (v : HeldStream). ahead_of v.stream c.args.mixed) c.self.view_is) in
    let near = to_z-of_z w64 c.ahead_index-ahead.result (subst (λ (z : ℤ). SFits w64 z) (sym is) (ahead_fits s c.self.invariant.0.holds c.args.mixed)) ∙ is in
    let bound = to_z_pos w64 d.maxlength (omega (arith, c.self.invariant.0.holds.maxlength_bounded)) in
    let how = outcome_is s c.args.seek c.args.offset c.args.frames c.args.bytes c.args.mixed stored (to_z w64 (of_z w64 c.args.offset)) (to_z w64 (of_z w64 c.ahead_index-ahead.result)) (to_z w64 d.maxlength) far near bound c.in-Stored.ensures.outcome in
    let after : Stream = stream_of c.push.new.self.queue d.corked d.maxlength d.tlength d.minreq c.less-self-inside.result d.draining.items d.run (sample_spec d.spec) d.feed d.factors in
    let same = written_is s c.args.seek c.args.offset c.args.frames c.args.bytes c.args.mixed stored c.push.new.self.queue d.queue.frame c.less-self-inside.result (to_z w64 (of_z w64 c.args.offset)) c.self.invariant.1 far c.less-self-inside.ensures how c.in-Stored.ensures.queue in (
      mixable_as s after c.self.invariant.0
          (subst (λ (t : Stream). IsStream t) (sym same)
          (written_keeps s c.self.invariant.0.holds (target_of s.queue (seek_of c.args.seek) c.args.offset) (frames_of (frame_size s.spec) c.args.frames c.args.bytes) (ahead_of s c.args.mixed)))
          refl refl refl,
      c.push.ensures.frame ∙ c.self.invariant.1,
      ap (λ (q : Queue). q.prebuf) c.in-Stored.ensures.queue ∙ written_prebuf stored d.queue.queue (target_of d.queue.queue (seek_of c.args.seek) (to_z w64 (of_z w64 c.args.offset))) (frames_of d.queue.frame c.args.frames c.args.bytes) ∙ c.self.invariant.2,
    )

pub returns-in-Overflow-clause-stream : goal.returns-in-Overflow-clause-stream
returns-in-Overflow-clause-stream g c =
    let d = c.self.inside in
    let s : Stream = stream_of d.queue.queue d.corked d.maxlength d.tlength d.minreq d.requested d.draining.items d.run (sample_spec d.spec) d.feed d.factors in
    let far = to_z-of_z w64 c.args.offset c.ranges.offset in
    let is : c.ahead_index-ahead.result ≡ ahead_of s c.args.mixed = c.ahead_index-ahead.ensures ∙ sym (ap (λ (v : HeldStream). ahead_of v.stream c.args.mixed) c.self.view_is) in
    let near = to_z-of_z w64 c.ahead_index-ahead.result (subst (λ (z : ℤ). SFits w64 z) (sym is) (ahead_fits s c.self.invariant.0.holds c.args.mixed)) ∙ is in
    let bound = to_z_pos w64 d.maxlength (omega (arith, c.self.invariant.0.holds.maxlength_bounded)) in
    let how = outcome_is s c.args.seek c.args.offset c.args.frames c.args.bytes c.args.mixed overflow (to_z w64 (of_z w64 c.args.offset)) (to_z w64 (of_z w64 c.ahead_index-ahead.result)) (to_z w64 d.maxlength) far near bound c.in-Overflow.ensures.outcome in
    written_is s c.args.seek c.args.offset c.args.frames c.args.bytes c.args.mixed overflow c.push.new.self.queue d.queue.frame c.less-self-inside-in-Overflow.result (to_z w64 (of_z w64 c.args.offset)) c.self.invariant.1 far c.less-self-inside-in-Overflow.ensures how c.in-Overflow.ensures.queue
    ∙ ap (λ (v : HeldStream). written_by c.args.seek c.args.offset c.args.frames c.args.bytes c.args.mixed v.stream) c.self.view_is

pub returns-in-Overflow-clause-answer : goal.returns-in-Overflow-clause-answer
returns-in-Overflow-clause-answer g c =
    let d = c.self.inside in
    let s : Stream = stream_of d.queue.queue d.corked d.maxlength d.tlength d.minreq d.requested d.draining.items d.run (sample_spec d.spec) d.feed d.factors in
    let far = to_z-of_z w64 c.args.offset c.ranges.offset in
    let is : c.ahead_index-ahead.result ≡ ahead_of s c.args.mixed = c.ahead_index-ahead.ensures ∙ sym (ap (λ (v : HeldStream). ahead_of v.stream c.args.mixed) c.self.view_is) in
    let near = to_z-of_z w64 c.ahead_index-ahead.result (subst (λ (z : ℤ). SFits w64 z) (sym is) (ahead_fits s c.self.invariant.0.holds c.args.mixed)) ∙ is in
    let bound = to_z_pos w64 d.maxlength (omega (arith, c.self.invariant.0.holds.maxlength_bounded)) in
    let how = outcome_is s c.args.seek c.args.offset c.args.frames c.args.bytes c.args.mixed overflow (to_z w64 (of_z w64 c.args.offset)) (to_z w64 (of_z w64 c.ahead_index-ahead.result)) (to_z w64 d.maxlength) far near bound c.in-Overflow.ensures.outcome in
    ap (λ (o : Outcome). answer_for (is_refused o)) (how ∙ ap (λ (v : HeldStream). write_outcome v.stream c.args.seek c.args.offset c.args.frames c.args.bytes c.args.mixed) c.self.view_is)

pub invariant_of-self-in-Overflow : goal.invariant_of-self-in-Overflow
invariant_of-self-in-Overflow g c =
    let d = c.self.inside in
    let s : Stream = stream_of d.queue.queue d.corked d.maxlength d.tlength d.minreq d.requested d.draining.items d.run (sample_spec d.spec) d.feed d.factors in
    let far = to_z-of_z w64 c.args.offset c.ranges.offset in
    let is : c.ahead_index-ahead.result ≡ ahead_of s c.args.mixed = c.ahead_index-ahead.ensures ∙ sym (ap (λ (v : HeldStream). ahead_of v.stream c.args.mixed) c.self.view_is) in
    let near = to_z-of_z w64 c.ahead_index-ahead.result (subst (λ (z : ℤ). SFits w64 z) (sym is) (ahead_fits s c.self.invariant.0.holds c.args.mixed)) ∙ is in
    let bound = to_z_pos w64 d.maxlength (omega (arith, c.self.invariant.0.holds.maxlength_bounded)) in
    let how = outcome_is s c.args.seek c.args.offset c.args.frames c.args.bytes c.args.mixed overflow (to_z w64 (of_z w64 c.args.offset)) (to_z w64 (of_z w64 c.ahead_index-ahead.result)) (to_z w64 d.maxlength) far near bound c.in-Overflow.ensures.outcome in
    let after : Stream = stream_of c.push.new.self.queue d.corked d.maxlength d.tlength d.minreq c.less-self-inside-in-Overflow.result d.draining.items d.run (sample_spec d.spec) d.feed d.factors in
    let same = written_is s c.args.seek c.args.offset c.args.frames c.args.bytes c.args.mixed overflow c.push.new.self.queue d.queue.frame c.less-self-inside-in-Overflow.result (to_z w64 (of_z w64 c.args.offset)) c.self.invariant.1 far c.less-self-inside-in-Overflow.ensures how c.in-Overflow.ensures.queue in (
      mixable_as s after c.self.invariant.0
          (subst (λ (t : Stream). IsStream t) (sym same)
          (written_keeps s c.self.invariant.0.holds (target_of s.queue (seek_of c.args.seek) c.args.offset) (frames_of (frame_size s.spec) c.args.frames c.args.bytes) (ahead_of s c.args.mixed)))
          refl refl refl,
      c.push.ensures.frame ∙ c.self.invariant.1,
      ap (λ (q : Queue). q.prebuf) c.in-Overflow.ensures.queue ∙ written_prebuf overflow d.queue.queue (target_of d.queue.queue (seek_of c.args.seek) (to_z w64 (of_z w64 c.args.offset))) (frames_of d.queue.frame c.args.frames c.args.bytes) ∙ c.self.invariant.2,
    )

pub returns-in-Outside-clause-stream : goal.returns-in-Outside-clause-stream
returns-in-Outside-clause-stream g c =
    let d = c.self.inside in
    let s : Stream = stream_of d.queue.queue d.corked d.maxlength d.tlength d.minreq d.requested d.draining.items d.run (sample_spec d.spec) d.feed d.factors in
    let far = to_z-of_z w64 c.args.offset c.ranges.offset in
    let is : c.ahead_index-ahead.result ≡ ahead_of s c.args.mixed = c.ahead_index-ahead.ensures ∙ sym (ap (λ (v : HeldStream). ahead_of v.stream c.args.mixed) c.self.view_is) in
    let near = to_z-of_z w64 c.ahead_index-ahead.result (subst (λ (z : ℤ). SFits w64 z) (sym is) (ahead_fits s c.self.invariant.0.holds c.args.mixed)) ∙ is in
    let bound = to_z_pos w64 d.maxlength (omega (arith, c.self.invariant.0.holds.maxlength_bounded)) in
    let how = outcome_is s c.args.seek c.args.offset c.args.frames c.args.bytes c.args.mixed outside (to_z w64 (of_z w64 c.args.offset)) (to_z w64 (of_z w64 c.ahead_index-ahead.result)) (to_z w64 d.maxlength) far near bound c.in-Outside.ensures.outcome in
    written_is s c.args.seek c.args.offset c.args.frames c.args.bytes c.args.mixed outside c.push.new.self.queue d.queue.frame d.requested (to_z w64 (of_z w64 c.args.offset)) c.self.invariant.1 far refl how c.in-Outside.ensures.queue
    ∙ ap (λ (v : HeldStream). written_by c.args.seek c.args.offset c.args.frames c.args.bytes c.args.mixed v.stream) c.self.view_is

pub returns-in-Outside-clause-answer : goal.returns-in-Outside-clause-answer
returns-in-Outside-clause-answer g c =
    let d = c.self.inside in
    let s : Stream = stream_of d.queue.queue d.corked d.maxlength d.tlength d.minreq d.requested d.draining.items d.run (sample_spec d.spec) d.feed d.factors in
    let far = to_z-of_z w64 c.args.offset c.ranges.offset in
    let is : c.ahead_index-ahead.result ≡ ahead_of s c.args.mixed = c.ahead_index-ahead.ensures ∙ sym (ap (λ (v : HeldStream). ahead_of v.stream c.args.mixed) c.self.view_is) in
    let near = to_z-of_z w64 c.ahead_index-ahead.result (subst (λ (z : ℤ). SFits w64 z) (sym is) (ahead_fits s c.self.invariant.0.holds c.args.mixed)) ∙ is in
    let bound = to_z_pos w64 d.maxlength (omega (arith, c.self.invariant.0.holds.maxlength_bounded)) in
    let how = outcome_is s c.args.seek c.args.offset c.args.frames c.args.bytes c.args.mixed outside (to_z w64 (of_z w64 c.args.offset)) (to_z w64 (of_z w64 c.ahead_index-ahead.result)) (to_z w64 d.maxlength) far near bound c.in-Outside.ensures.outcome in
    ap (λ (o : Outcome). answer_for (is_refused o)) (how ∙ ap (λ (v : HeldStream). write_outcome v.stream c.args.seek c.args.offset c.args.frames c.args.bytes c.args.mixed) c.self.view_is)
