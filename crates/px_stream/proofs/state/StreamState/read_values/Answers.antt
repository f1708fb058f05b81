use Rattle.std.proofs.Common.{◌≡◌, ◌≢◌, ℕ, ◌+◌, ◌*◌, ◌<◌, ◌≤◌, List, length, get_or, replicate, take, drop, refl, ap, sym, ◌∙◌, subst, arith, rules, ℤ, pos, mul_comm}
use Rattle.std.specs.Prelude.{slice_index}
use Rattle.std.proofs.lemmas.List.{get_or-replicate, length-take-le}
use Rattle.std.proofs.lemmas.Bool.{cond-true}
use Rattle.std.proofs.Math.Nat.{mul-le-mul_right}
use Rattle.px_sample.proofs.RunLemmas.{fits_word}
use Rattle.px_msg.specs.View.{sample_spec}
use Rattle.px_sample.specs.Format.{size_of, frame_size_of}
use Rattle.px_model.specs.Queue.{FrameAhead, nothing, silence, sound, queue_frame}
use Rattle.px_model.specs.Stream.{Stream, frame_at}
use Rattle.px_stream.specs.HeldStream.{HeldStream, stream_of}
use Rattle.px_stream.specs.Values.{value_at}
use Rattle.px_stream.proofs.Reading.{frame_open, not_nothing, peeked_few, then_is}
use Rattle.px_stream.proofs.Runs.{place_inside}
use Rattle.px_stream.proofs.Sounds.{value_by, frame_some}
use Rattle.px_msg.proofs.Sizes.{same_frame_size}
use Rattle.px_stream.proofs.state.StreamState.read_values.Goals as goal

pub peek-requires-clause-whole : goal.peek-requires-clause-whole
peek-requires-clause-whole c =
    let d = c.self.inside in
    let width : d.queue.frame ≡ frame_size_of d.spec = c.self.invariant.1 ∙ same_frame_size d.spec in
    let end : c.bytes_of-end.result ≡ c.args.frames * d.queue.frame = c.bytes_of-end.ensures.value ∙ ap (λ (n : ℕ). c.args.frames * n) (sym width) in
    (c.args.frames, then_is c.bytes_of-end.result (c.args.frames * d.queue.frame) _ end (search rules))

pub read_samples-requires-clause-size : goal.read_samples-requires-clause-size
read_samples-requires-clause-size c =
    let d = c.self.inside in
    let long : length c.args.values.now ≡ c.args.frames * d.spec.channels = c.requires.places ∙ sym (ap (λ (v : HeldStream). c.args.frames * v.stream.spec.channels) c.self.view_is) in
    then_is c.bytes_of-end.result (size_of d.spec.format * length c.args.values.now) (length c.peek.new.out) (c.bytes_of-end.ensures.samples ∙ ap (λ (n : ℕ). size_of d.spec.format * n) (sym long)) (search rules)

pub returns-in-Silence-clause-few : goal.returns-in-Silence-clause-few
returns-in-Silence-clause-few c =
    let d = c.self.inside in
    let width : d.queue.frame ≡ frame_size_of d.spec = c.self.invariant.1 ∙ same_frame_size d.spec in
    let end : c.bytes_of-end.result ≡ c.args.frames * d.queue.frame = c.bytes_of-end.ensures.value ∙ ap (λ (n : ℕ). c.args.frames * n) (sym width) in
    let whole : length c.peek.new.out ≡ c.args.frames * d.queue.frame = then_is c.bytes_of-end.result (c.args.frames * d.queue.frame) (length c.peek.new.out) end (search rules) in
    let some : 0 < d.queue.frame = subst (λ (n : ℕ). 1 ≤ n) (sym width) (frame_some d.spec c.self.invariant.0.playable.some_channels) in
    let few : c.in-Silence.given ≤ c.args.frames = peeked_few c.in-Silence.given _ d.queue.frame c.args.frames c.in-Silence.ensures.fit (ap (λ (xs : List ℕ). length xs) (sym c.in-Silence.ensures.same) ∙ whole) some in
    few

pub returns-in-Silence-clause-values : goal.returns-in-Silence-clause-values
returns-in-Silence-clause-values c =
    let d = c.self.inside in
    let s : Stream = stream_of d.queue.queue d.corked d.maxlength d.tlength d.minreq d.requested d.draining.items d.run (sample_spec d.spec) d.feed d.factors in
    let long : length c.args.values.now ≡ c.args.frames * d.spec.channels = c.requires.places ∙ sym (ap (λ (v : HeldStream). c.args.frames * v.stream.spec.channels) c.self.view_is) in
    let width : d.queue.frame ≡ frame_size_of d.spec = c.self.invariant.1 ∙ same_frame_size d.spec in
    let end : c.bytes_of-end.result ≡ c.args.frames * d.queue.frame = c.bytes_of-end.ensures.value ∙ ap (λ (n : ℕ). c.args.frames * n) (sym width) in
    let whole : length c.peek.new.out ≡ c.args.frames * d.queue.frame = then_is c.bytes_of-end.result (c.args.frames * d.queue.frame) (length c.peek.new.out) end (search rules) in
    let some : 0 < d.queue.frame = subst (λ (n : ℕ). 1 ≤ n) (sym width) (frame_some d.spec c.self.invariant.0.playable.some_channels) in
    let few : c.in-Silence.given ≤ c.args.frames = peeked_few c.in-Silence.given _ d.queue.frame c.args.frames c.in-Silence.ensures.fit (ap (λ (xs : List ℕ). length xs) (sym c.in-Silence.ensures.same) ∙ whole) some in
    let zeros : c.fill.new.self ≡ replicate (length c.args.values.now) (pos 0) = c.fill.ensures.after (λ y e. e) in
    subst (λ (v : HeldStream). (k j : ℕ) → k < length v.stream.feed → j < c.in-Silence.given → get_or c.fill.new.self (j * v.stream.spec.channels + slice_index v.stream.feed k) (pos 0) ≡ value_at c.args.width v.stream k (frame_at v.stream (c.args.k + j))) c.self.view_is
    (λ k j fed less.
    let at : frame_at s (c.args.k + j) ≡ silence = frame_open s (c.args.k + j) c.if-self.false ∙ c.in-Silence.ensures.silent j less in
    let here : j < c.args.frames = omega (arith, less, few) in
    let there : j * d.spec.channels + slice_index d.feed k < length c.args.values.now =
    omega (arith, long, place_inside j c.args.frames d.spec.channels (slice_index d.feed k) here (c.self.invariant.0.feed_fits k 0 fed), mul_comm d.spec.channels c.args.frames) in
    ap (λ (xs : List ℤ). get_or xs (j * d.spec.channels + slice_index d.feed k) (pos 0)) zeros
    ∙ get_or-replicate (length c.args.values.now) (j * d.spec.channels + slice_index d.feed k) (pos 0) (pos 0) there
    ∙ sym (ap (λ (a : FrameAhead). value_at c.args.width s k a) at))

pub returns-in-Frames-clause-few : goal.returns-in-Frames-clause-few
returns-in-Frames-clause-few c =
    let d = c.self.inside in
    let width : d.queue.frame ≡ frame_size_of d.spec = c.self.invariant.1 ∙ same_frame_size d.spec in
    let end : c.bytes_of-end.result ≡ c.args.frames * d.queue.frame = c.bytes_of-end.ensures.value ∙ ap (λ (n : ℕ). c.args.frames * n) (sym width) in
    let whole : length c.peek.new.out ≡ c.args.frames * d.queue.frame = then_is c.bytes_of-end.result (c.args.frames * d.queue.frame) (length c.peek.new.out) end (search rules) in
    let some : 0 < d.queue.frame = subst (λ (n : ℕ). 1 ≤ n) (sym width) (frame_some d.spec c.self.invariant.0.playable.some_channels) in
    let few : c.in-Frames.given ≤ c.args.frames = peeked_few c.in-Frames.given _ d.queue.frame c.args.frames c.in-Frames.ensures.fit (sym c.in-Frames.ensures.size ∙ whole) some in
    few

pub returns-in-Frames-clause-values : goal.returns-in-Frames-clause-values
returns-in-Frames-clause-values c =
    let d = c.self.inside in
    let s : Stream = stream_of d.queue.queue d.corked d.maxlength d.tlength d.minreq d.requested d.draining.items d.run (sample_spec d.spec) d.feed d.factors in
    let long : length c.args.values.now ≡ c.args.frames * d.spec.channels = c.requires.places ∙ sym (ap (λ (v : HeldStream). c.args.frames * v.stream.spec.channels) c.self.view_is) in
    let width : d.queue.frame ≡ frame_size_of d.spec = c.self.invariant.1 ∙ same_frame_size d.spec in
    let end : c.bytes_of-end.result ≡ c.args.frames * d.queue.frame = c.bytes_of-end.ensures.value ∙ ap (λ (n : ℕ). c.args.frames * n) (sym width) in
    let whole : length c.peek.new.out ≡ c.args.frames * d.queue.frame = then_is c.bytes_of-end.result (c.args.frames * d.queue.frame) (length c.peek.new.out) end (search rules) in
    let some : 0 < d.queue.frame = subst (λ (n : ℕ). 1 ≤ n) (sym width) (frame_some d.spec c.self.invariant.0.playable.some_channels) in
    let few : c.in-Frames.given ≤ c.args.frames = peeked_few c.in-Frames.given _ d.queue.frame c.args.frames c.in-Frames.ensures.fit (sym c.in-Frames.ensures.size ∙ whole) some in
    let size : length c.peek.new.out ≡ size_of d.spec.format * length c.args.values.now =
    whole ∙ sym end ∙ c.bytes_of-end.ensures.samples ∙ ap (λ (n : ℕ). size_of d.spec.format * n) (sym long) in
    subst (λ (v : HeldStream). (k j : ℕ) → k < length v.stream.feed → j < c.in-Frames.given → get_or c.read_samples.new.values (j * v.stream.spec.channels + slice_index v.stream.feed k) (pos 0) ≡ value_at c.args.width v.stream k (frame_at v.stream (c.args.k + j))) c.self.view_is
    (λ k j fed less.
    let at : frame_at s (c.args.k + j) ≡ sound (take (frame_size_of d.spec) (drop (j * frame_size_of d.spec) c.peek.new.out)) =
    frame_open s (c.args.k + j) c.if-self.false ∙ c.in-Frames.ensures.frames j less ∙ ap (λ (n : ℕ). sound (take n (drop (j * n) c.peek.new.out))) width in
    let here : j < c.args.frames = omega (arith, less, few) in
    let channel : slice_index d.feed k < d.spec.channels = c.self.invariant.0.feed_fits k 0 fed in
    let there : j * d.spec.channels + slice_index d.feed k < length c.args.values.now =
    omega (arith, long, place_inside j c.args.frames d.spec.channels (slice_index d.feed k) here channel, mul_comm d.spec.channels c.args.frames) in
    value_by d.spec c.args.width s k j (length c.args.values.now) c.peek.new.out c.read_samples.new.values refl size channel there c.read_samples.ensures.values
    ∙ sym (ap (λ (a : FrameAhead). value_at c.args.width s k a) at))

pub bytes_of-end-requires : goal.bytes_of-end-requires
bytes_of-end-requires c = subst (λ (v : HeldStream). c.args.frames * v.stream.spec.channels ≤ 256) (sym c.self.view_is) c.requires.few

pub fill-requires : goal.fill-requires
fill-requires c = tt

pub peek-requires-clause-some : goal.peek-requires-clause-some
peek-requires-clause-some c =
    let d = c.self.inside in
    let width : d.queue.frame ≡ frame_size_of d.spec = c.self.invariant.1 ∙ same_frame_size d.spec in
    let end : c.bytes_of-end.result ≡ c.args.frames * d.queue.frame = c.bytes_of-end.ensures.value ∙ ap (λ (n : ℕ). c.args.frames * n) (sym width) in
    omega (arith, length-take-le {A = ℕ} c.bytes_of-end.result (replicate 1024 0) c.bytes_of-end.ensures.few, end, mul-le-mul_right d.queue.frame c.requires.some)

pub returns-in-Frames-clause-none : goal.returns-in-Frames-clause-none
returns-in-Frames-clause-none c = λ none. absurd (omega (arith, none, c.in-Frames.ensures.some))

pub returns-in-Frames-clause-there : goal.returns-in-Frames-clause-there
returns-in-Frames-clause-there c =
    let d = c.self.inside in
    let s : Stream = stream_of d.queue.queue d.corked d.maxlength d.tlength d.minreq d.requested d.draining.items d.run (sample_spec d.spec) d.feed d.factors in
    subst (λ (v : HeldStream). (j : ℕ) → j < c.in-Frames.given → frame_at v.stream (c.args.k + j) ≢ nothing) c.self.view_is
    (λ j less. not_nothing _ _ (frame_open s (c.args.k + j) c.if-self.false ∙ c.in-Frames.ensures.frames j less) refl)

pub returns-in-Frames-clause-words : goal.returns-in-Frames-clause-words
returns-in-Frames-clause-words c = λ k d less. fits_word c.args.width _ (c.read_samples.ensures.within k d less)

pub returns-in-Nothing-clause-few : goal.returns-in-Nothing-clause-few
returns-in-Nothing-clause-few c = omega (arith)

pub returns-in-Nothing-clause-none : goal.returns-in-Nothing-clause-none
returns-in-Nothing-clause-none c =
    let d = c.self.inside in
    let s : Stream = stream_of d.queue.queue d.corked d.maxlength d.tlength d.minreq d.requested d.draining.items d.run (sample_spec d.spec) d.feed d.factors in
    λ e. subst (λ (v : HeldStream). frame_at v.stream c.args.k ≡ nothing) c.self.view_is (frame_open s c.args.k c.if-self.false ∙ c.in-Nothing.ensures.0)

pub returns-in-Nothing-clause-there : goal.returns-in-Nothing-clause-there
returns-in-Nothing-clause-there c = λ j less. absurd (omega (arith, less))

pub returns-in-Nothing-clause-values : goal.returns-in-Nothing-clause-values
returns-in-Nothing-clause-values c = λ k j fed less. absurd (omega (arith, less))

pub returns-in-Nothing-clause-words : goal.returns-in-Nothing-clause-words
returns-in-Nothing-clause-words c = c.requires.words

pub returns-in-Silence-clause-none : goal.returns-in-Silence-clause-none
returns-in-Silence-clause-none c = λ none. absurd (omega (arith, none, c.in-Silence.ensures.some))

pub returns-in-Silence-clause-there : goal.returns-in-Silence-clause-there
returns-in-Silence-clause-there c =
    let d = c.self.inside in
    let s : Stream = stream_of d.queue.queue d.corked d.maxlength d.tlength d.minreq d.requested d.draining.items d.run (sample_spec d.spec) d.feed d.factors in
    subst (λ (v : HeldStream). (j : ℕ) → j < c.in-Silence.given → frame_at v.stream (c.args.k + j) ≢ nothing) c.self.view_is
    (λ j less. not_nothing _ _ (frame_open s (c.args.k + j) c.if-self.false ∙ c.in-Silence.ensures.silent j less) refl)

pub returns-then-self-clause-few : goal.returns-then-self-clause-few
returns-then-self-clause-few c = omega (arith)

pub returns-then-self-clause-none : goal.returns-then-self-clause-none
returns-then-self-clause-none c =
    let d = c.self.inside in
    λ e. subst (λ (v : HeldStream). frame_at v.stream c.args.k ≡ nothing) c.self.view_is (cond-true d.corked nothing (queue_frame d.queue.queue c.args.k) c.if-self.true)

pub returns-then-self-clause-there : goal.returns-then-self-clause-there
returns-then-self-clause-there c = λ j less. absurd (omega (arith, less))

pub returns-then-self-clause-values : goal.returns-then-self-clause-values
returns-then-self-clause-values c = λ k j fed less. absurd (omega (arith, less))

pub returns-then-self-clause-words : goal.returns-then-self-clause-words
returns-then-self-clause-words c = c.requires.words

pub slice_bounds-bytes-end : goal.slice_bounds-bytes-end
slice_bounds-bytes-end c = sym (length-take-le {A = ℕ} c.bytes_of-end.result (replicate 1024 0) c.bytes_of-end.ensures.few)

pub slice_bounds-scratch-end : goal.slice_bounds-scratch-end
slice_bounds-scratch-end c = c.bytes_of-end.ensures.few
