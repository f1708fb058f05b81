use Rattle.std.proofs.Common.{◌≡◌, ℕ, ◌+◌, ◌*◌, ◌<◌, List, take, drop, refl, ap, sym, ◌∙◌, subst, arith}
use Rattle.px_msg.specs.View.{sample_spec}
use Rattle.px_msg.proofs.Sizes.{same_frame_size}
use Rattle.px_sample.specs.declared.format.Format.{Format}
use Rattle.px_sample.specs.declared.format.Format.TheVariants.{S16Le}
use Rattle.px_sample.specs.declared.format.Width.TheVariants.{W16}
use Rattle.px_sample.specs.Format.{size_of, frame_size_of}
use Rattle.px_model.specs.Queue.{FrameAhead, sound}
use Rattle.px_model.specs.Stream.{Stream, frame_at}
use Rattle.px_stream.specs.HeldStream.{HeldStream, stream_of}
use Rattle.px_stream.specs.Values.{value_at}
use Rattle.px_stream.specs.Lent.{LendsValues}
use Rattle.px_stream.proofs.Reading.{frame_open, not_nothing}
use Rattle.px_stream.proofs.Sounds.{bytes_are, value_lent}
use Rattle.px_stream.proofs.state.StreamState.lent.Goals as goal

pub returns : goal.returns
returns c =
    let d = c.self.inside in
    let s : Stream = stream_of d.queue.queue d.corked d.maxlength d.tlength d.minreq d.requested d.draining.items d.run (sample_spec d.spec) d.feed d.factors in
    let bytes : List ℕ = c.lend.result.now in
    let n : ℕ = c.lend.ensures.0 in
    let lent = c.lend.ensures.1 in
    let width : d.queue.frame ≡ frame_size_of d.spec = c.self.invariant.1 ∙ same_frame_size d.spec in
    let format : d.spec.format ≡ S16Le = c.is_value.ensures.format c.if-not-is_value.false in
    let to : c.args.width ≡ W16 = c.is_value.ensures.width c.if-not-is_value.false in
    let heard : (j : ℕ) → j < n → frame_at s (c.args.k + j) ≡ sound (take (frame_size_of d.spec) (drop (j * frame_size_of d.spec) bytes)) =
    λ j less. frame_open s (c.args.k + j) c.if-self.false ∙ lent.frames j less ∙ ap (λ (m : ℕ). sound (take m (drop (j * m) bytes))) width in
    subst (λ (v : HeldStream). (x : ℕ) × LendsValues c.args.width v.stream c.args.k c.args.most x bytes) c.self.view_is (
      n,
      record {
        few = omega (arith, lent.few, c.min.ensures);
        small = omega (arith, lent.few, c.min.ensures);
        size = lent.size ∙ ap (λ (m : ℕ). n * m) width ∙ bytes_are d.spec n ∙ ap (λ (f : Format). size_of f * (n * d.spec.channels)) format;
        there = λ j less. not_nothing (frame_at s (c.args.k + j)) (sound (take (frame_size_of d.spec) (drop (j * frame_size_of d.spec) bytes))) (heard j less) refl;
        values = λ k j fed less.
            value_lent d.spec c.args.width s k j bytes refl (c.self.invariant.0.feed_fits k 0 fed) format to
            ∙ sym (ap (λ (a : FrameAhead). value_at c.args.width s k a) (heard j less));
      },
    )
