use Rattle.std.proofs.Common.{◌≡◌, ap, sym, ◌∙◌, subst, arith, w64, SFits, to_z, of_z}
use Rattle.std.specs.Prelude.{ℤ}
use Rattle.std.proofs.lemmas.Int.{to_z-of_z, to_z_pos}
use Rattle.px_msg.specs.View.{sample_spec}
use Rattle.px_model.specs.Stream.{Stream}
use Rattle.px_model.specs.Going.{ahead_of}
use Rattle.px_model.specs.Message.{StreamMessage}
use Rattle.px_stream.specs.HeldStream.{HeldStream, stream_of}
use Rattle.px_stream.specs.Heard.{unaltered_of}
use Rattle.px_stream.proofs.Keeping.{ahead_fits}
use Rattle.px_stream.proofs.Sounding.{unwritten_is}
use Rattle.px_stream.proofs.state.StreamState.unwritten.Goals as goal

pub returns : goal.returns
returns c = λ bytes.
    let d = c.self.inside in
    let s : Stream = stream_of d.queue.queue d.corked d.maxlength d.tlength d.minreq d.requested d.draining.items d.run (sample_spec d.spec) d.feed d.factors in
    let far = to_z-of_z w64 c.args.offset c.ranges.offset in
    let is : c.ahead_index-ahead.result ≡ ahead_of s c.args.mixed = c.ahead_index-ahead.ensures ∙ sym (ap (λ (v : HeldStream). ahead_of v.stream c.args.mixed) c.self.view_is) in
    let near = to_z-of_z w64 c.ahead_index-ahead.result (subst (λ (z : ℤ). SFits w64 z) (sym is) (ahead_fits s c.self.invariant.0.holds c.args.mixed)) ∙ is in
    let bound = to_z_pos w64 d.maxlength (omega (arith, c.self.invariant.0.holds.maxlength_bounded)) in
    unwritten_is s c.args.seek c.args.offset c.args.frames c.args.mixed (to_z w64 (of_z w64 c.args.offset)) (to_z w64 (of_z w64 c.ahead_index-ahead.result)) (to_z w64 d.maxlength) c.unaltered.result far near bound c.unaltered.ensures bytes
    ∙ ap (λ (v : HeldStream). unaltered_of c.args.mixed (StreamMessage.write c.args.seek c.args.offset c.args.frames bytes) v.stream) c.self.view_is
